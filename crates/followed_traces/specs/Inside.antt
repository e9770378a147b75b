-- What only the contracts of functions inside this crate, and of those above it, cite.
pub mod Watched
pub mod Lines
