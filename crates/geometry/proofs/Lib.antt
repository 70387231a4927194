pub mod Products
pub mod Signed
pub mod Walks
pub mod Corners
pub mod Crossings
