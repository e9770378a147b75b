pub mod Places
pub mod Registered
pub mod Holding
pub mod MapText
pub mod Inside
