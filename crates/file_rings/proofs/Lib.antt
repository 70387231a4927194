pub mod Rings
pub mod Copied
