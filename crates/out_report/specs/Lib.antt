-- What a reader must believe of the report at the C boundary: what is returned and left in the lent text and in `out`. The sentences in quotes are those of
-- docs/DECISIONS.md, "The C boundary", and of document 02.
-- `Inner` is only for private functions: no public contract cites it.
pub mod Report
pub mod Inner
