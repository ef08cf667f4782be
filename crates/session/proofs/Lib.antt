pub mod Few
pub mod DataLaws
pub mod Interleaved
