-- What a reader must believe of the file reader at the C boundary: what is returned and left in the lent slices and in `out`. The sentences in quotes are those
-- of docs/DECISIONS.md, "The C boundary", and of document 01.
-- `Inner` is only for private functions: no public contract cites it.
pub mod Read
pub mod Inner
