-- What a reader must believe of the bench's output: Bench (what is written for a file; a line is that of crate line) and Promises (what it means).
-- `Inner` is only for private functions: no public contract cites it.
pub mod Bench
pub mod Promises
pub mod Inner
