pub mod Given
pub mod Counting
pub mod Inside
pub mod Collecting
pub mod Listed
