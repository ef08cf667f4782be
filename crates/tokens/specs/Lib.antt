-- The infix operator that comes next in a text. The grammar itself is the crate `grammar`'s.
pub mod Next
