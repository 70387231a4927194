pub mod Frontiers
pub mod Held
