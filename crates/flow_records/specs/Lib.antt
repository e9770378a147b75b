pub mod Limits
pub mod Setup
pub mod Counted
pub mod Events
pub mod Decisions
