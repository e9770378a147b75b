pub mod Channels
pub mod Given
pub mod Inside
