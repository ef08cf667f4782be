-- What a reader must believe of the slice `out` and of the number returned. The sentences in quotes are those of docs/DECISIONS.md, "The C boundary".
-- `Unanswered` is only for private functions: no public contract cites it.
pub mod Out
pub mod Unanswered
