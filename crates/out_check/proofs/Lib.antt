-- The laws that the proofs cite, by subject.
pub mod Checking
pub mod Unique
