pub mod Lists
pub mod Search
pub mod Steps
