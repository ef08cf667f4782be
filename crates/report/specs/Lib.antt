-- What a reader must believe of the report, over one line (the crate `summary`): Under (nodes under the root), Lines (the lines of a report), Report (what
-- is answered for every input) and Promises (statements). `Inner` is only for private functions: no public contract cites it.
pub mod Under
pub mod Lines
pub mod Report
pub mod Promises
pub mod Inner
