-- Firsts and counts from the bits of a word.
pub mod Firsts
pub mod Unique
