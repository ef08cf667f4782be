-- That the contract leaves one result.
pub mod Unique
