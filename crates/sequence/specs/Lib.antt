-- What a reader must believe of sequences and operators.
pub mod Operators
pub mod Masked
pub mod Sequence
