-- What a reader must believe of a state's words: Words (how they are written and read), Written (what is left in a lent slice), and Promises (a statement). The
-- sentences in quotes are those of docs/DECISIONS.md, "The C boundary".
pub mod Words
pub mod Written
pub mod Promises
