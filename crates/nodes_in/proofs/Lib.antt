-- Laws of nodes in arrays, by subject.
pub mod Filling
pub mod Fields
pub mod Cut
pub mod Seen
