pub mod Scripts
pub mod Written
pub mod ScriptAnswers
pub mod Items
