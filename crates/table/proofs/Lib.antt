-- Laws of the table, by subject.
pub mod Acceptance
pub mod Kept
pub mod Unique
