pub mod Rings
pub mod Darts
pub mod Faces
pub mod Runs
pub mod Headings
pub mod Placing
pub mod Drawing
