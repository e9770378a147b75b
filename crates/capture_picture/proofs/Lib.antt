pub mod Changed
pub mod Widths
pub mod Drawn
pub mod Covering
pub mod Nearest
