pub mod Notes
pub mod Cells
