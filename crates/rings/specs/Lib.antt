pub mod Tables
pub mod FilePlans
