-- The laws that the proofs cite, by subject.
pub mod Resuming
pub mod Promises
