-- What a reader must believe of an operator over rows.
pub mod Loops
