pub mod Places
pub mod Rounds
pub mod Darts
