pub mod Small
pub mod Framing
pub mod Turning
pub mod Sizes
pub mod Places
pub mod Codes
pub mod Handing
pub mod Steps
