pub mod Records
pub mod Agreement
pub mod Kept
pub mod Sized
pub mod Struct
pub mod Guarantee
pub mod ThereAndBack
pub mod Example
