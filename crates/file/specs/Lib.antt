-- What a reader must believe of the session file.
-- `Inner` is only for the reader's private functions: no public contract cites it.
pub mod Format
pub mod Offence
pub mod Reading
pub mod Promises
pub mod Inner
