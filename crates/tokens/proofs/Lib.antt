-- The laws by which each return of the functions meets its contract.
pub mod Operators
