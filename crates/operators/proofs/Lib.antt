pub mod Groups
pub mod Table
pub mod Unique
pub mod Commuting
pub mod Checks
pub mod Settled
