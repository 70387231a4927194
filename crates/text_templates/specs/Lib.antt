pub mod Digits
pub mod Forms
