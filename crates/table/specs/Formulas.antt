-- When the lent slices hold what the walk has kept.
-- Assumes nothing.
use Rattle.std.specs.Prelude.{◌≡◌, ℕ, ◌+◌, ◌*◌, ◌≤◌, ◌<◌, length}
use Rattle.walk.specs.Input.{Input}
use Rattle.walk.specs.Kept.{Table}
use Rattle.rows.specs.Formulas.{matrix_at, Fine}
use Rattle.table.specs.Slices.{Cols, table_over}

-- the slices, which held t₀, hold the table k
pub record HoldsKept (i : Input) (k : Table) (t₀ t : Cols) : Type 0 where
  pub fine : (p : ℕ) → p < length k → Fine i (matrix_at k p)
  pub are : t ≡ table_over k t₀

-- room for a formula at a place
pub record RoomAt (i : Input) (place : ℕ) (t : Cols) : Type 0 where
  pub codes : place < length t.codes
  pub lefts : place < length t.lefts
  pub rights : place < length t.rights
  pub sizes : place < length t.sizes
  pub matrices : place * i.recording.sessions + i.recording.sessions ≤ length t.matrices
