-- The laws behind the proofs, by subject.
pub mod Whole
pub mod Promises
