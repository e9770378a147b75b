pub mod Lists
pub mod Growing
pub mod Behind
