-- What a reader must believe of printing at the C boundary: what is returned and left in the lent room and in `out`. The sentences in quotes are those of
-- docs/DECISIONS.md, "The C boundary", and of document 01.
-- `Inner` is only for private functions: no public contract cites it.
pub mod Print
pub mod Inner
