pub mod Statuses
pub mod Queued
pub mod Held
pub mod Made
