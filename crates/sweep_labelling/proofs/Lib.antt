pub mod Draws
pub mod Puts
pub mod Arrays
pub mod Unlabelled
pub mod Frontiers
