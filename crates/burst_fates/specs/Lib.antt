pub mod Room
pub mod Fates
pub mod Words
