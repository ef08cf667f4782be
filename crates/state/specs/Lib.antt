-- What a reader must believe of a search's state: Ends (its ends as tests and as numbers), and Row, when request E7's number 14 refuses it.
pub mod Ends
pub mod Row
