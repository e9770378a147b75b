-- What only private fields of the two ends, and proofs, speak of.
pub mod Ends
