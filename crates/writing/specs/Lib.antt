-- What a reader must believe of writing into lent text.
pub mod Writing
