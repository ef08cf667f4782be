-- The laws that the proofs cite, by subject.
pub mod Searching
pub mod Unique
pub mod Promises
