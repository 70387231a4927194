pub mod Constraints
pub mod Solved
pub mod Relaxing
