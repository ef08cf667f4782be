-- Any two results that a contract of this crate allows for the same input are equal.
-- Assumes nothing.
use mathlib.Core.Path.{◌≡◌, sym, ◌∙◌}
use mathlib.Core.List.{List}
use Prim.Native.Nat.{ℕ}
use Rattle.words.proofs.At.{means-unique}
use Rattle.loops.proofs.Unique.{filled-unique, done-unique}
use Rattle.leaves.specs.Leaves.{PropositionOver, FalseOver, TrueOver}

pub proposition-over-unique : (r m : ℕ) (words : List ℕ) (p : ℕ) (old new new' : List ℕ) → PropositionOver r m words p old new → PropositionOver r m words p old new' → new ≡ new'
proposition-over-unique r m words p old new new' a b = done-unique (λ x y f g. filled-unique (λ j w w' e e'. e ∙ sym e') f g) new new' a b

pub false-over-unique : (r : ℕ) (old new new' : List ℕ) → FalseOver r old new → FalseOver r old new' → new ≡ new'
false-over-unique r old new new' a b = done-unique (λ x y f g. filled-unique (λ j w w' e e'. e ∙ sym e') f g) new new' a b

pub true-over-unique : (r : ℕ) (masks old new new' : List ℕ) → TrueOver r masks old new → TrueOver r masks old new' → new ≡ new'
true-over-unique r masks old new new' a b = done-unique (λ x y f g. filled-unique (λ j w w' e e'. means-unique e e') f g) new new' a b
