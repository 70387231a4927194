pub mod Codes
pub mod Exchange
