pub mod Outcomes
pub mod Unique
