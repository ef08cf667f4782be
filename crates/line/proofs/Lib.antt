-- How long a line can be.
pub mod Digits
