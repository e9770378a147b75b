pub mod End
pub mod Inside
