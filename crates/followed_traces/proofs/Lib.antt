pub mod FollowedTrace
pub mod EndOfTrace
pub mod LinesOfWhole
