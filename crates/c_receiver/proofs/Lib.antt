pub mod QueueGrowing
pub mod Opened
