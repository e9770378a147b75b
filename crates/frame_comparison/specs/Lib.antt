pub mod Frames
pub mod Fingerprint
pub mod Compared
pub mod Seen
pub mod Aligned
pub mod ComparisonText
pub mod InStep
