-- What a reader must believe of the search at the C boundary: Search (what is returned and left), and Promises (what the words of `out` mean). The sentences
-- in quotes are those of docs/DECISIONS.md, "The C boundary", and of document 01.
-- `Inner` is only for private functions: no public contract cites it.
pub mod Search
pub mod Promises
pub mod Inner
