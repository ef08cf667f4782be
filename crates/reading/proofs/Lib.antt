pub mod Spans
pub mod Lists
pub mod Runs
pub mod Readers
pub mod Steps
pub mod Ends
