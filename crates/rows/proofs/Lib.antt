-- Laws of a candidate's rows, by subject.
pub mod Parts
pub mod Groups
pub mod Candidates
pub mod Matrices
pub mod Unique
