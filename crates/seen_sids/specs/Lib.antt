pub mod Places
pub mod Rows
pub mod Seen
pub mod Guess
pub mod SeenText
