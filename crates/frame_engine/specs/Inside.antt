-- What only the contracts of functions inside this crate cite.
pub mod Joins
pub mod Beside
