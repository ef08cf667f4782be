-- Laws of the numbers from one on, and of the counts.
pub mod Numbers
pub mod Counting
