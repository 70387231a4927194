pub mod Marks
pub mod DartConstraints
pub mod Walk
pub mod Draw
