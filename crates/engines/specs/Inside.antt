-- What only the contracts of functions inside this crate cite.
pub mod Counting
pub mod Transfer
pub mod Writing
pub mod Following
