-- What a reader must believe of words: the reading of LTL on finite traces, and a word as a row of bits.
pub mod Ltlf
pub mod Word
pub mod Masked
pub mod Promises
