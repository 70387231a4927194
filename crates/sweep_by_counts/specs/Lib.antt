pub mod Courses
pub mod Picks
pub mod Moves
pub mod Strays
pub mod Running
