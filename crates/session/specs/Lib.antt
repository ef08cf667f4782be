-- What a reader must believe of session data. `Inner` is only for the private tests: no public contract cites it.
pub mod Recording
pub mod Data
pub mod Inner
