-- Laws of a split: of loops in their middle, of a cursor in them, of steps, and of the commuting mark.
pub mod Loops
pub mod Splits
pub mod Takes
pub mod Marks
