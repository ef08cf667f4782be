-- What a reader must believe of E2's grammar: Name, Token, Grammar, Naming, Nodes, and what follows of it (Promises).
-- `Scan` and `Reader` compute, and proofs/ ties them to the grammar; `Passing` is for a reader's private functions. No public contract cites these three.
pub mod Name
pub mod Token
pub mod Grammar
pub mod Naming
pub mod Nodes
pub mod Promises
pub mod Scan
pub mod Reader
pub mod Passing
