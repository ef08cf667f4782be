pub mod Leaves
pub mod Sizes
pub mod Lists
pub mod Rest
pub mod Few
pub mod Layers
pub mod Cursors
