-- What a reader must believe of a formula on sessions: Check (the analyst's check), Sequences (a formula's sequence on a session). `Inner` is only for private
-- functions: no public contract cites it.
pub mod Check
pub mod Sequences
pub mod Inner
