-- What only the contracts of calls between these crates cite.
pub mod LineFault
pub mod LineFeeds
pub mod Digits
pub mod DigitBlocks
