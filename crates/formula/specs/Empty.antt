-- Document 02, E4: "the usual reading of the empty trace", as it is written there.
-- Assumes nothing.
use Rattle.std.specs.Prelude.{◌≡◌, true, ◌↔◌, ◌⊎◌, ℕ}
use Rattle.sequence.specs.Operators.{not, weak_next, strong_next, finally, globally, or, and, until, release, implies, equiv}
use Rattle.formula.specs.Formula.{Formula, leaf, unary, binary, proposition, constant, Trace}

-- "propositions, false, `X[!]`, `F` and `U` are not accepted; true, `X`, `G` and `R` are; the Boolean operators follow their children"
abbrev pub OnEmpty : Formula → Type 0
OnEmpty (leaf (proposition p)) = ⊥
OnEmpty (leaf (constant b)) = b ≡ true
OnEmpty (unary not t) = OnEmpty t → ⊥
OnEmpty (unary weak_next t) = Unit {0}
OnEmpty (unary strong_next t) = ⊥
OnEmpty (unary finally t) = ⊥
OnEmpty (unary globally t) = Unit {0}
OnEmpty (binary or l r) = OnEmpty l ⊎ OnEmpty r
OnEmpty (binary and l r) = OnEmpty l × OnEmpty r
OnEmpty (binary until l r) = ⊥
OnEmpty (binary release l r) = Unit {0}
OnEmpty (binary implies l r) = OnEmpty l → OnEmpty r
OnEmpty (binary equiv l r) = OnEmpty l ↔ OnEmpty r

-- a trace of no snapshot, at which no proposition was recorded
pub record Empty (τ : Trace) : Type 0 where
  pub no-snapshot : τ.length ≡ 0
  pub nothing : (p : ℕ) → τ.holds p 0 → ⊥
