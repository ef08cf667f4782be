-- What a text is judged to be: Words (the most bytes; typed's definitions, passed on), Packed (nodes in a scratch), Judging (what is answered). They are for
-- `reader`, whose contract is over the grammar alone. `Inner` and `Answers` are only for private functions.
pub mod Words
pub mod Packed
pub mod Inner
pub mod Answers
pub mod Judging
