-- The laws by which each return of the descent meets its contract.
pub mod Ends
pub mod Lookup
pub mod Scratch
pub mod Returns
pub mod Judging
