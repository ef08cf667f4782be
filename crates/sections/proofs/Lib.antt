-- Laws by subject.
pub mod Numbers
pub mod CodeLaws
pub mod Turns
pub mod Session
