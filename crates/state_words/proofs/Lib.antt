-- The laws of a state's words, by subject.
pub mod Back
pub mod Done
