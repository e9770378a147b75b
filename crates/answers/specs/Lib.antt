pub mod Bytes
pub mod Room
pub mod ToldAlike
pub mod Beside
