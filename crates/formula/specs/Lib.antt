-- What a reader must believe of formulas: trees and their reading, nodes and what they spell, recorded sessions as traces, the rule of a node list;
-- Promises has statements of theorems. `Faultless` and `Inner` are for private functions: no public contract cites them.
pub mod Formula
pub mod Nodes
pub mod Recorded
pub mod Kinds
pub mod Rule
pub mod Faultless
pub mod Promises
pub mod Empty
pub mod Inner
