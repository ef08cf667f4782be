-- Laws by subject, and the theorems on the public contracts.
pub mod Places
pub mod Evaluation
pub mod Checking
pub mod Unique
pub mod Sequencing
