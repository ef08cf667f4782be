-- What a reader must believe of what was read.
pub mod Input
