-- What a reader must believe of the walk: the walk itself, its input, and what is promised of it.
pub mod Walk
pub mod Rows
pub mod Input
pub mod Cut
pub mod Kept
pub mod Promises
