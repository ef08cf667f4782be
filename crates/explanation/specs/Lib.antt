-- What a reader must believe of `explain`'s output: Explanation. `Inner` is only for private functions: no public contract cites it.
pub mod Explanation
pub mod Inner
