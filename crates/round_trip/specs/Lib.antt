-- What is promised of printing and reading together: Promises.
pub mod Promises
