-- What a reader must believe of the operators at the C boundary: what is returned and left in `out`. The sentences in quotes are those of docs/DECISIONS.md,
-- "The C boundary", and of document 01.
-- `Inner` is only for private functions: no public contract cites it.
pub mod Operators
pub mod Inner
