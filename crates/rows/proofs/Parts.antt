-- The words of a slice from a place on.
-- Assumes nothing.
use mathlib.Core.Path.{◌≡◌, ◌∙◌}
use mathlib.Core.List.{List}
use Prim.Native.Nat.{ℕ, ◌+◌, ◌-◌, ◌≤◌, ◌<◌}
use native.Mathlib.Omega.{arith}
use lib.ListN.{length, get_or, take, drop, length-take, length-drop}
use lib.Seq.{get_or-take, get_or-drop}

pub part_at : (s : List ℕ) (a j : ℕ) → a + j < length s → get_or (take (length s - a) (drop a s)) j 0 ≡ get_or s (a + j) 0
part_at s a j h = get_or-take (length s - a) (drop a s) j 0 (omega arith) ∙ get_or-drop a s j 0

pub part-long : (s : List ℕ) (a r : ℕ) → a + r ≤ length s → r ≤ length (take (length s - a) (drop a s))
part-long s a r h = simp (length-take, length-drop) (omega arith)
