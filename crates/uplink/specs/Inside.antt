pub mod Feeding
pub mod Offering
pub mod Running
pub mod Collected
