pub mod Whole
pub mod Bits
