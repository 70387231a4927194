pub mod Named
pub mod Turns
pub mod Answers
