pub mod Arrays
pub mod Listed
pub mod Relax
