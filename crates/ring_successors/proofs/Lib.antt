pub mod Notes
pub mod Tells
pub mod Shorter
