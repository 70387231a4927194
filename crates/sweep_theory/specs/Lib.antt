pub mod Quick
pub mod Local
pub mod Counter
pub mod Cost
pub mod Ready
