pub mod RingName
pub mod Frames
pub mod Parcels
pub mod Left
pub mod Feeders
pub mod Takers
pub mod Inside
