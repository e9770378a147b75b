pub mod Faults
pub mod Fronts
pub mod Headline
pub mod Channels
pub mod Received
pub mod Inside
