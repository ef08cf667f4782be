-- The laws behind the proofs, by subject.
pub mod Fates
pub mod Seeking
pub mod Turning
pub mod Unique
