mod Numbered
pub mod NoFloats
