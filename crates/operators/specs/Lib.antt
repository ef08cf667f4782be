-- What a reader must believe of the table of operators and of the operators by code. The rows and answers are those of sequence.
pub mod Table
pub mod Commuting
pub mod Settled
pub mod Promises
