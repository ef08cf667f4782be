-- What a reader must believe of what is said of a typed formula: Caret (what was typed, with a caret), Suspicion (what is written for a text and a file) and
-- Promises (what it means). `Inner` is only for private functions: no public contract cites it.
pub mod Caret
pub mod Suspicion
pub mod Promises
pub mod Inner
