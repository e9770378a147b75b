pub mod Takable
pub mod Carried
pub mod Handover
pub mod Working
pub mod Consuming
pub mod Scheduling
pub mod Joining
pub mod Opening
