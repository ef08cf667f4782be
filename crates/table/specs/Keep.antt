-- A formula written at a place: what `keep` leaves in the lent slices, for every input.
-- Assumes nothing.
use Rattle.std.specs.Prelude.{◌≡◌, Bool, List, ℕ, ◌+◌, ◌*◌, ◌≤◌, ◌<◌, length, set}
use Rattle.std.proofs.Math.Seq.{paste}
use Rattle.rules.specs.Limits.{most_sessions}
use Rattle.formula.specs.Nodes.{Node}
use Rattle.loops.specs.Loops.{Told}
use Rattle.table.specs.Slices.{Cols, cols}

-- there are r rows, and the place is one of each slice
pub record KeepAsk (r : ℕ) (rows : List ℕ) (place : ℕ) (t : Cols) : Type 0 where
  pub sessions-in : r ≤ most_sessions
  pub rows-there : r ≤ length rows
  pub codes-in : place < length t.codes
  pub lefts_in : place < length t.lefts
  pub rights-in : place < length t.rights
  pub sizes-in : place < length t.sizes
  pub matrix-in : place * r + r ≤ length t.matrices

-- "else kept at the next place": the node's four numbers at the place, and the r rows as its matrix; all else stays
abbrev pub kept_at : ℕ → List ℕ → ℕ → Node → Cols → Cols
kept_at r rows place node t =
    cols (set t.codes place node.code) (set t.lefts place node.left) (set t.rights place node.right) (set t.sizes place node.size)
    (paste t.matrices (place * r) rows r)

abbrev pub KeepAnswer : ℕ → List ℕ → ℕ → Node → Cols → Cols → Bool → Type 0
KeepAnswer r rows place node t t' b = Told (KeepAsk r rows place t) (t' ≡ kept_at r rows place node t) (t' ≡ t) b
