-- What a reader must believe of reading lent bytes: the first offending byte, for the pieces that all sections are made of.
pub mod Reading
