-- What a reader must believe of the comparison: Compare and Promises. `Inner` is only for private functions: no public contract cites it.
pub mod Compare
pub mod Promises
pub mod Inner
