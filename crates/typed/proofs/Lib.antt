-- Laws of a text's words and brackets, by subject; uniqueness.
pub mod Unknowns
pub mod Nesting
pub mod Unique
