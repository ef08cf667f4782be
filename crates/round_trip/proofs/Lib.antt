-- The laws behind the two promises, by subject, and their proofs.
pub mod Standing
pub mod Worded
pub mod Nested
pub mod Named
pub mod Contracts
pub mod Promises
