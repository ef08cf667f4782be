-- What a reader must believe of printing: the text of a formula, what print answers, and what follows of it (Promises).
-- `Inner` is only for private functions: no public contract cites it.
pub mod Text
pub mod Tokens
pub mod Print
pub mod Promises
pub mod Inner
