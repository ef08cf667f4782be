pub mod Trees
pub mod Listed
pub mod Faults
pub mod Tests
pub mod Judged
pub mod Spelled
pub mod Empty
pub mod Unique
