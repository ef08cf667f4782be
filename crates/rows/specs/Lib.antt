-- What a reader must believe of a candidate's rows: Rows, Formulas and Promises. `Inner` is only for private functions: no public contract cites it.
pub mod Rows
pub mod Formulas
pub mod Promises
pub mod Inner
