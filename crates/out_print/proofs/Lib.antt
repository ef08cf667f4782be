-- The laws that the proofs cite, by subject.
pub mod Printing
pub mod Unique
