-- Laws by subject.
pub mod Same
