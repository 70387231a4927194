pub mod Beginning
pub mod Finishing
