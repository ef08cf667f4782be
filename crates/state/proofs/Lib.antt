-- The laws behind the proofs, by subject.
pub mod Ends
pub mod Passing
