-- The state after a candidate, by whether its fate ends the walk.
-- Assumes nothing.
use mathlib.Core.Path.{◌≡◌}
use Prim.Native.Nat.{ℕ}
use Rattle.formula.specs.declared.kinds.Node.{Node}
use Rattle.split.specs.declared.Cursor.{Cursor}
use Rattle.counting.specs.declared.Fate.{Fate}
use Rattle.counting.specs.declared.Counts.{Counts}
use Rattle.counting.specs.Counting.{counted_by}
use Rattle.state.specs.declared.End.{End}
use Rattle.state.proofs.Ends.{not_more}
use Rattle.onward.specs.Onward.{more_state, over_state, end_after, after_state}

module _ (s : ℕ) (n : Counts) (next : Cursor) (node : Node) where
  pub after_more : (v : Fate) → end_after v ≡ End.More → after_state s n next v node ≡ more_state s next (counted_by v n)
  after_more v e = rw e

  pub after-over : (v : Fate) → (end_after v ≡ End.More → ⊥) → after_state s n next v node ≡ over_state s n v node
  after-over v e = rw (not_more (end_after v) e)
