-- What a reader must believe of a split: Split. `Inner` is only for private functions: no public contract cites it.
pub mod Split
pub mod Inner
