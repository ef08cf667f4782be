-- Uniqueness: any two answers that a contract allows for the same input are equal.
-- Assumes nothing.
use mathlib.Core.Path.{◌≡◌, refl, ap}
use mathlib.Core.Bool.{Bool, true, false}
use mathlib.Core.List.{List}
use Prim.Native.Nat.{ℕ}
use native.Mathlib.Omega.{arith}
use native.Mathlib.Decide.{dec_lt}
use Rattle.std.proofs.Common.{Option, Some, None}
use Rattle.typed.specs.Words.{FirstUnknown}
use Rattle.typed.specs.Answers.{MissingIs, DeepIs}

pub first_one : {names : List (List ℕ)} {text : List ℕ} (j k : ℕ) → FirstUnknown names text j → FirstUnknown names text k → j ≡ k
first_one j k a b = elim (dec_lt j k) [
  | yes h ↦ absurd (b.before j h a.here)
  | no h ↦ elim (dec_lt k j) [ yes g ↦ absurd (a.before k g b.here) | no g ↦ omega arith ]
]

pub missing-unique : (names : List (List ℕ)) (text : List ℕ) (a b : Option ℕ) → MissingIs names text a → MissingIs names text b → a ≡ b
missing-unique names text None None p q = refl
missing-unique names text None (Some k) p q = absurd (p k q.here)
missing-unique names text (Some j) None p q = absurd (q j p.here)
missing-unique names text (Some j) (Some k) p q = ap Some (first_one j k p q)

pub deep-unique : (text : List ℕ) (a b : Bool) → DeepIs text a → DeepIs text b → a ≡ b
deep-unique text true true p q = refl
deep-unique text true false p q = absurd (q p)
deep-unique text false true p q = absurd (p q)
deep-unique text false false p q = refl
