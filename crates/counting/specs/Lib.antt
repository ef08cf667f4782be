-- What a reader must believe of the counts: Counting. What is promised of them: Promises.
pub mod Counting
pub mod Promises
