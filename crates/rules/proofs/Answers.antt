-- A test says one thing; and tests that are made at once.
-- Assumes nothing.
use mathlib.Core.Path.{◌≡◌, refl}
use mathlib.Core.Logic.{◌⊎◌, inl, inr}
use mathlib.Core.Bool.{Bool, true, false, ◌||◌}
use Prim.Native.Nat.{ℕ, ◌<◌}
use native.Mathlib.Omega.{arith}
use lib.Dec.{ltb}
use borrow.Author.Tests.{ltb-true, ltb-false}
use Rattle.rules.specs.Limits.{Outside}
use Rattle.rules.specs.Answers.{Tested}

pub tested-one : (fact : Type 0) (a b : Bool) → Tested fact a → Tested fact b → a ≡ b
tested-one fact true true p q = refl
tested-one fact true false p q = absurd (q p)
tested-one fact false true p q = absurd (p q)
tested-one fact false false p q = refl

-- tests that are made at once
pub less : (a b : ℕ) → Tested (a < b) (ltb a b)
less a b = go (ltb a b) refl
  where
    go : (x : Bool) → ltb a b ≡ x → Tested (a < b) x
    go true e = ltb-true a b e
    go false e = λ h. omega (arith, ltb-false a b e)

pub either : (P Q : Type 0) (a b : Bool) → Tested P a → Tested Q b → Tested (P ⊎ Q) (a || b)
either P Q true b p q = inl p
either P Q false true p q = inr q
either P Q false false p q = λ w. elim w [ inl x ↦ p x | inr y ↦ q y ]

pub beyond : (least most n : ℕ) → Tested (Outside least most n) (ltb n least || ltb most n)
beyond least most n = either (n < least) (most < n) (ltb n least) (ltb most n) (less n least) (less most n)
