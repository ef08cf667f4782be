-- What a reader must believe of one line of the report: Values (first snapshots and counts) and Line (the line, byte by byte).
pub mod Values
pub mod Line
