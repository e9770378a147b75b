pub mod Handing
pub mod StandIns
pub mod Given
pub mod Whole
pub mod Taking
