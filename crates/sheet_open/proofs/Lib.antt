pub mod Lent
pub mod Copies
pub mod Opened
pub mod Quick
