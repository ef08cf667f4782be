pub mod Agreeing
pub mod Decoding
pub mod Masked
pub mod Leading
pub mod Groups
pub mod Answers
pub mod Unique
pub mod Computed
