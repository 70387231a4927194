pub mod Offsets
pub mod LayoutParts
pub mod Layouts
