pub mod Places
pub mod Twins
pub mod PutRows
