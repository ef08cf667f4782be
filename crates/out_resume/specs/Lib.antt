-- What a reader must believe of the search in slices at the C boundary: Resume (what is returned and left), and Promises (what holds of the words of states that
-- calls handed out). The sentences in quotes are those of docs/DECISIONS.md, "The C boundary", and of document 02.
-- `Inner` is only for private functions: no public contract cites it.
pub mod Resume
pub mod Promises
pub mod Inner
