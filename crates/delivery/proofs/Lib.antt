pub mod Sending
pub mod Ends
