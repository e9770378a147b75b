pub mod Round
pub mod Numbers
