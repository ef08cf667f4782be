-- The lent slices of a search, and the kept formulas in them: the table's.
pub use Rattle.table.specs.Slices.{Cols, cols, table_over}
