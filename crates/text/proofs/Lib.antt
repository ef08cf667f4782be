pub mod Tokens
pub mod OneWay
pub mod Texts
pub mod Printing
pub mod Answers
pub mod Unique
pub mod Promises
