-- What only proofs speak of.
pub mod Reached
pub mod Leasts
pub mod Arrival
pub mod Order
pub mod Verdicts
pub mod InTurn
pub mod Holding
