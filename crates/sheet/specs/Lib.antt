pub mod Sheets
pub mod Answers
