-- What only the contracts of functions inside this crate cite.
pub mod Options
pub mod Command
pub mod Flows
