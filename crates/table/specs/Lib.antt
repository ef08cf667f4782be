-- What a reader must believe of the table: Slices, Acceptance, Keep, Formulas and Promises. `Inner` is only for private functions: no public contract
-- cites it.
pub mod Slices
pub mod Acceptance
pub mod Keep
pub mod Formulas
pub mod Promises
pub mod Inner
