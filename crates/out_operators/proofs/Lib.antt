-- The laws that the proofs cite, by subject.
pub mod Operating
pub mod Unique
