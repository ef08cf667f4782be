-- The laws that the proofs cite, by subject.
pub mod Parsing
pub mod Unique
