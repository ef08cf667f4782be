-- The laws behind the proofs, by subject.
pub mod Fitting
pub mod Making
pub mod Settling
pub mod Points
pub mod Positions
pub mod Rounds
pub mod Taken
pub mod Cuts
