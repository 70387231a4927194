pub mod InnerFaces
pub mod Draws
