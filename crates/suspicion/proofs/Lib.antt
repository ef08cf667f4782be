-- The laws that the proofs of what is said cite, by subject.
pub mod Typed
pub mod Answered
pub mod Unique
pub mod Sizes
pub mod Apart
pub mod Promises
