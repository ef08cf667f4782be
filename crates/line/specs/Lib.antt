-- What a reader must believe of a line that a program writes.
pub mod Line
