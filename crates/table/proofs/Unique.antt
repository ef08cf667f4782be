-- Any two results that the contract of `keep` allows for the same input are equal.
-- Assumes nothing.
use mathlib.Core.Path.{◌≡◌, sym, ◌∙◌}
use mathlib.Core.Bool.{Bool}
use mathlib.Core.List.{List}
use Prim.Native.Nat.{ℕ}
use Rattle.formula.specs.Nodes.{Node}
use Rattle.loops.proofs.Unique.{told-unique}
use Rattle.table.specs.Slices.{Cols}
use Rattle.table.specs.Keep.{kept_at, KeepAnswer}

pub keep-unique : (r : ℕ) (rows : List ℕ) (place : ℕ) (node : Node) (t u u' : Cols) (b b' : Bool) → KeepAnswer r rows place node t u b → KeepAnswer r rows place node t u' b'
    → (b ≡ b') × (u ≡ u')
keep-unique r rows place node t u u' b b' p q = told-unique _ (λ x. x ≡ kept_at r rows place node t) t (λ x y f g. f ∙ sym g) b b' u u' p q
