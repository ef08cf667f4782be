-- What stands where an operand is awaited. The grammar itself is the crate `grammar`'s.
pub mod Front
