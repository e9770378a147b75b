pub mod Timed
pub mod Seen
pub mod Timing
