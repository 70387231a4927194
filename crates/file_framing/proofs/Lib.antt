pub mod Offsets
pub mod Walks
pub mod Layouts
