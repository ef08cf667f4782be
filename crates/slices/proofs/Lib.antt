-- The laws behind the proofs, by subject.
pub mod Checks
pub mod Calls
pub mod Slicing
