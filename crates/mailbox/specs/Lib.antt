pub mod Entries
pub mod Ports
pub mod Mouths
pub mod Openings
pub mod Settling
pub mod Inside
