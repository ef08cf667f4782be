-- Where words stand in their slices, and that the contracts leave one result.
pub mod Products
pub mod Unique
