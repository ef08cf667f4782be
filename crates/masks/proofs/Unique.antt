-- Any two results that the contract of `masks_of` allows for the same input are equal.
-- Assumes nothing.
use mathlib.Core.Path.{◌≡◌}
use mathlib.Core.Bool.{Bool}
use mathlib.Core.List.{List}
use Prim.Native.Nat.{ℕ}
use Rattle.words.proofs.At.{means-unique}
use Rattle.loops.proofs.Unique.{filled-unique, told-unique}
use Rattle.masks.specs.Masks.{MasksAnswer}

pub masks-unique : (r : ℕ) (lengths old new new' : List ℕ) (b b' : Bool) → MasksAnswer r lengths old new b → MasksAnswer r lengths old new' b' → (b ≡ b') × (new ≡ new')
masks-unique r lengths old new new' b b' p q = told-unique _ _ old (λ x y f g. filled-unique (λ j w w' m n. means-unique m n) f g) b b' new new' p q
