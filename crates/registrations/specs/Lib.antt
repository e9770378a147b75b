pub mod Message
pub mod Part
pub mod Frames
pub mod Values
pub mod Told
pub mod Joining
pub mod UnderWay
