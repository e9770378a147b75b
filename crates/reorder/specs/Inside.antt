-- What only contracts of private functions, and proofs, speak of.
pub mod Places
pub mod Coding
pub mod Ring
