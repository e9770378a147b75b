pub mod Clock
pub mod Order
pub mod Turns
pub mod Inside
pub mod Waiting
pub mod Begin
pub mod Held
