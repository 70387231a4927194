pub mod Engine
pub mod Verdicts
pub mod Guarantee
pub mod ThereAndBack
