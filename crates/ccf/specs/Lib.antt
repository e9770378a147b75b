pub mod Walk
pub mod Feed
pub mod Whole
pub mod Join
pub mod Filter
pub mod Completed
pub mod Unfinished
pub mod Inside
