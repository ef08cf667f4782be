-- The levels of two operators that meet. Assumes nothing.
use mathlib.Core.Path.{◌≡◌, refl, sym, ap, ◌∙◌}
use mathlib.Core.List.{List}
use Prim.Native.Nat.{ℕ, zero, suc, ◌+◌, ◌-◌, ◌*◌, ◌≤◌, ◌<◌}
use native.Mathlib.Omega.{arith}
use native.Mathlib.Decide.{ℕ_discrete}
use Rattle.sequence.specs.Operators.{Binary}
use Rattle.grammar.specs.Token.{Typed, Token}
use Rattle.sequence.specs.Operators.Binary.{or, and, until, release, implies, equiv}
use Rattle.grammar.specs.Grammar.{level, left_level, right_level, operand, Derives, looser}

pub record Sides (o : Binary) : Type 0 where
  pub low : level o < operand
  pub left : level o ≤ left_level o
  pub left-most : left_level o ≤ suc (level o)
  pub both : left_level o + right_level o ≡ 2 * level o + 1

pub sides : (o : Binary) → Sides o
sides or = record { low = omega arith; left = omega arith; left-most = omega arith; both = refl }
sides and = record { low = omega arith; left = omega arith; left-most = omega arith; both = refl }
sides until = record { low = omega arith; left = omega arith; left-most = omega arith; both = refl }
sides release = record { low = omega arith; left = omega arith; left-most = omega arith; both = refl }
sides implies = record { low = omega arith; left = omega arith; left-most = omega arith; both = refl }
sides equiv = record { low = omega arith; left = omega arith; left-most = omega arith; both = refl }

-- operators of one level associate alike
abbrev left_at : ℕ → ℕ
left_at zero = 1
left_at (suc zero) = 1
left_at (suc (suc zero)) = 2
left_at (suc (suc (suc n))) = 4

left-at : (o : Binary) → left_level o ≡ left_at (level o)
left-at or = refl
left-at and = refl
left-at until = refl
left-at release = refl
left-at implies = refl
left-at equiv = refl

-- `a o b p c`: either o's expression is p's left side, or p's is o's right side
module _ (o p : Binary) where
  pub gives-way : left_level p ≤ level o → level p < right_level o
  gives-way h =
      let so = sides o in
      let sp = sides p in
      elim (ℕ_discrete (level o) (level p)) [
        | yes e ↦ let a : left_level o ≡ left_level p = left-at o ∙ ap left_at e ∙ sym (left-at p) in omega arith
        | no n ↦ let l : level p < level o = omega arith in omega arith
      ]

  pub takes-over : level p < right_level o → left_level p ≤ level o
  takes-over h =
      let so = sides o in
      let sp = sides p in
      elim (ℕ_discrete (level o) (level p)) [
        | yes e ↦ let a : left_level o ≡ left_level p = left-at o ∙ ap left_at e ∙ sym (left-at p) in omega arith
        | no n ↦ let l : level p < level o = omega arith in omega arith
      ]

-- an expression is one of every lower level
lower_by : (k : ℕ) {n : ℕ} {ts : List Token} {t : Typed} → Derives (k + n) ts t → Derives n ts t
lower_by zero {n} d = let z : zero + n ≡ n = omega arith in rw z at d
lower_by (suc k) {n} d = let z : suc k + n ≡ suc (k + n) = omega arith in lower_by k (looser (rw z at d))

pub lower : {m n : ℕ} {ts : List Token} {t : Typed} → m ≤ n → Derives n ts t → Derives m ts t
lower {m} {n} h d = let z : n ≡ (n - m) + m = omega arith in lower_by (n - m) (rw z at d)
