-- Uniqueness.
pub mod Unique
pub mod OneParse
