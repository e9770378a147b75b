pub mod Line
pub mod Fault
pub mod Reading
pub mod Inside
