pub mod NameLaws
pub mod Walks
pub mod Lookups
pub mod Finding
pub mod Turns
pub mod Sections
pub mod Starts
pub mod Theorems
