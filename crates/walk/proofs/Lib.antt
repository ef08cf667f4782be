-- The laws of the walk, by subject, up to what is promised.
pub mod Members
pub mod Places
pub mod Trees
pub mod Layers
pub mod Pass
pub mod Smallest
pub mod Rows
pub mod Reading
pub mod Promises
pub mod Empty
pub mod Steady
pub mod Position
pub mod Resume
pub mod Dropped
pub mod Same
pub mod Examples
