pub mod Points
pub mod Compass
