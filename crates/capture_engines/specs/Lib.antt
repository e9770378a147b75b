pub mod Telling
pub mod Mapping
pub mod Inside
