-- What a reader must believe of a typed text besides its grammar: Words (unknown names, nesting), Answers.
-- `Inner` is only for private functions: no public contract cites it.
pub mod Words
pub mod Answers
pub mod Inner
