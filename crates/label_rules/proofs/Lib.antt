pub mod Noted
pub mod Rows
pub mod ByTable
pub mod Breaks
