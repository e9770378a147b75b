pub mod Counted
pub mod Compared
