pub mod Turns
pub mod Items
pub mod Walk
pub mod Written
pub mod Example
