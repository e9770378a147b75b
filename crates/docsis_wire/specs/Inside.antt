-- What only contracts of private functions, and proofs, speak of.
pub mod Cursor
pub mod Parts
pub mod UnderWay
pub mod Pending
