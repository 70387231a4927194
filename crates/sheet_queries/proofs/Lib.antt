pub mod Scans
pub mod Writes
pub mod Comparisons
