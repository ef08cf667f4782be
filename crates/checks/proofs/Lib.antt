-- Laws of the refusals, by subject.
pub mod Codes
pub mod Decide
pub mod Passing
