pub mod Turned
pub mod EdgeTurns
