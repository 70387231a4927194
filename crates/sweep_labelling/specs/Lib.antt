pub mod Edges
pub mod Labelling
