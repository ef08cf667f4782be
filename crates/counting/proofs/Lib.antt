-- The law behind the counts.
pub mod Tallies
