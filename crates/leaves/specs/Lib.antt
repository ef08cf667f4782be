-- What a reader must believe of the leaves' rows.
pub mod Leaves
