pub mod Marking
pub mod Length
pub mod Unique
pub mod Composing
