-- The laws that the proofs cite.
pub mod Reporting
