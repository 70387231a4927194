pub mod Confirming
pub mod Sound
