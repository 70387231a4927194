pub mod Offers
pub mod Turns
