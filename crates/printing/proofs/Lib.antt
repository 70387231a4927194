pub mod Texts
pub mod Prints
pub mod Shown
