pub mod Frames
pub mod Recorded
pub mod BurstIds
