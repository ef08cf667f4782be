-- The laws that the proofs cite, by subject.
pub mod Reading
pub mod Unique
