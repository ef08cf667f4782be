-- Laws of the comparison, by subject.
pub mod Differences
pub mod Duplicates
pub mod Unique
