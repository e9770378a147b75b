-- What only contracts of private functions, the rule of the queue, and proofs speak of.
pub mod Ends
pub mod Delivers
pub mod Counting
