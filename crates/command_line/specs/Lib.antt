pub mod OptionWords
pub mod Losses
pub mod Channels
pub mod Flows
pub mod Command
pub mod Inside
