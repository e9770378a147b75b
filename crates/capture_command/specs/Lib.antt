pub mod Fault
pub mod Asked
pub mod Program
pub mod Progress
