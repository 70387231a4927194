pub mod Tests
pub mod Ranges
pub mod Parts
pub mod Spans
pub mod Words
pub mod Folds
