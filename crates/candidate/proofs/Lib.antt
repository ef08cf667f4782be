-- The laws behind the proofs, by subject.
pub mod Judging
pub mod Judged
