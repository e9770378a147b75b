mod Listing
mod Settled
mod SideKept
mod Kept
mod SeenMoved
mod Moves
mod Aligned
pub mod Arrivals
mod InStep
