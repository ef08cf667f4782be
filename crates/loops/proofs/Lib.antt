-- How a slice is filled from its start, and that the contracts leave one result.
pub mod Filling
pub mod Unique
