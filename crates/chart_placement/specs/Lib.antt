pub mod DartConstraints
pub mod Drawing
pub mod Marking
