-- What a reader must believe of the order of candidates: Size, Ahead and Steps. `Inner` is only for private functions: no public contract cites it.
pub mod Size
pub mod Ahead
pub mod Steps
pub mod Inner
