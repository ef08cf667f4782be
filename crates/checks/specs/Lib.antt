-- What a reader must believe of the refusals of a search: Refusals and Promises. `Inner` is only for private functions: no public contract cites it.
pub mod Refusals
pub mod Promises
pub mod Inner
