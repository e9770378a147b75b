-- What only the contracts of functions inside this crate cite.
pub mod TraceLine
pub mod Join
pub mod Cut
pub mod SetupLines
pub mod Reading
pub mod TraceInput
pub mod StandIn
pub mod Replayed
pub mod InPlace
pub mod Selected
pub mod Added
pub mod PartsOfLines
