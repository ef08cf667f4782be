-- What a reader must believe of where sizes begin: Starts. `Inner` is only for private functions: no public contract cites it.
pub mod Starts
pub mod Inner
