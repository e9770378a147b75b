pub mod Limits
pub mod Number
pub mod View
pub mod Verdicts
pub mod Calls
pub mod Inside
