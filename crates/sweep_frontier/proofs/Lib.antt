pub mod Moves
pub mod Holding
pub mod Under
pub mod Fails
pub mod Ones
pub mod Puts
