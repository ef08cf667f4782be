-- What a reader must believe of one candidate: Judge. What is promised of it: Promises. `Inner` is only for private functions: no public contract cites it.
pub mod Judge
pub mod Promises
pub mod Inner
