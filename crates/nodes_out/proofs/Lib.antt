-- Laws of nodes that are left in arrays, by subject.
pub mod Kept
pub mod Placed
