-- `first_equal` meets its contract: no place passed has an equal matrix.
use mathlib.Core.Path.{◌≡◌}
use Prim.Native.Nat.{ℕ, ◌*◌, ◌<◌}
use Rattle.comparison.specs.Compare.{Same}
use Rattle.comparison.proofs.comparing.first_equal.Given as goal

abbrev pub invariant-loop-p : goal.invariant-loop-p
invariant-loop-p l = (l.from ≡ l.p * l.r) × ((q : ℕ) → q < l.p → Same l.r l.matrices l.rows q l.r → ⊥)
