pub mod Records
pub mod Pieces
pub mod ReadCapture
pub mod MapRan
