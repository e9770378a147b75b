pub mod Limits
pub mod Rows
pub mod Admission
pub mod Inputs
pub mod Report
pub mod Stands
pub mod Inside
