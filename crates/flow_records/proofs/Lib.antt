pub mod Setup
pub mod SeenIdentifiers
