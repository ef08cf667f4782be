-- What a reader must believe of nodes that are left in arrays: `Columns`, a lent list of nodes as slices of numbers, and `Arrays`, what is left and how it is put over
-- a list.
pub mod Columns
pub mod Arrays
