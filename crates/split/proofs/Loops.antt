-- What is left of a loop over a range of numbers: in its first turn, past its last, with the first turn done or not begun.
-- Assumes nothing.
use mathlib.Core.Path.{◌≡◌, refl, ◌∙◌}
use mathlib.Core.List.{List, [], ◌∷◌, ◌++◌}
use Prim.Native.Nat.{ℕ, suc, ◌+◌, ◌-◌, ◌≤◌, ◌<◌}
use native.Mathlib.Omega.{arith}
use native.Mathlib.Numerals.{add-one}
use native.Mathlib.Decide.{dec_le}
use borrow.Author.Tests.{lt-ltb, le-ltb}
use Rattle.rules.specs.Lists.{each, count}
use Rattle.split.specs.Split.{range, resume}

pub range_cons : (a b : ℕ) → a < b → range a b ≡ a ∷ range (a + 1) b
unfolding range count
range_cons a b h = let e : b - a ≡ suc (b - (a + 1)) = omega arith in rw (e, add-one)

pub range-nil : (a b : ℕ) → b ≤ a → range a b ≡ []
unfolding range count
range-nil a b h = let e : b - a ≡ 0 = omega arith in rw e

module _ {A : Type 0} where
  pub each-empty : (f : ℕ → List A) (xs : List ℕ) → ((x : ℕ) → f x ≡ []) → each xs f ≡ []
  unfolding each
  each-empty f [] e = refl
  each-empty f (x ∷ xs) e = rw (e x) (each-empty f xs e)

  pub each_none : (f : ℕ → List A) (a b : ℕ) → b ≤ a → each (range a b) f ≡ []
  unfolding each
  each_none f a b h = rw (range-nil a b h)

  pub resume-empty : (g f : ℕ → List A) (a b : ℕ) → ((x : ℕ) → g x ≡ []) → ((x : ℕ) → f x ≡ []) → resume g f a b ≡ []
  unfolding resume
  resume-empty g f a b d e = elim (dec_le b a) [
    | yes h ↦ rw (le-ltb a b h)
    | no h ↦ rw (lt-ltb a b (omega arith), d a) (each-empty f (range (a + 1) b) e)
  ]

  module _ (g f : ℕ → List A) (a b : ℕ) where
    pub resume-in : a < b → resume g f a b ≡ g a ++ each (range (a + 1) b) f
    unfolding resume
    resume-in h = rw (lt-ltb a b h)

    pub resume-out : b ≤ a → resume g f a b ≡ []
    unfolding resume
    resume-out h = rw (le-ltb a b h)

    -- its first turn is done
    pub resume-done : g a ≡ [] → resume g f a b ≡ each (range (a + 1) b) f
    resume-done e = elim (dec_le b a) [
      | yes h ↦ resume-out h ∙ rw (each_none f (a + 1) b (omega arith))
      | no h ↦ resume-in (omega arith) ∙ rw e
    ]

    -- nothing of its first turn is done
    pub resume-fresh : g a ≡ f a → resume g f a b ≡ each (range a b) f
    unfolding each
    resume-fresh e = elim (dec_le b a) [
      | yes h ↦ resume-out h ∙ rw (range-nil a b h)
      | no h ↦ resume-in (omega arith) ∙ rw (e, range_cons a b (omega arith))
    ]

  -- the same is left of the first turn
  pub resume-as : (g h f : ℕ → List A) (a b : ℕ) → g a ≡ h a → resume g f a b ≡ resume h f a b
  unfolding resume
  resume-as g h f a b e = rw e
