-- What a reader must believe of what programs say.
pub mod Digits
pub mod Failures
pub mod Lists
