pub mod Ranges
pub mod Selection
pub mod Lines
