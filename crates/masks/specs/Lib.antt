-- What a reader must believe of the masks.
pub mod Masks
