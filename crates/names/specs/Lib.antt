-- What a reader must believe of a names section: which are good, the first offending byte, what the judge answers, and which name stands where.
-- `Inner` is only for private functions: no public contract cites it.
pub mod Reserved
pub mod Names
pub mod Judged
pub mod Lookup
pub mod Inner
