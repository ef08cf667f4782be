-- Operators at the boundary: the row of `out` comes after theirs.
-- Assumes nothing.
use mathlib.Core.Path.{refl}
use mathlib.Core.Logic.{inl, inr}
use mathlib.Core.List.{List, [], ◌∷◌, ◌++◌}
use Prim.Native.Nat.{ℕ, ◌<◌}
use native.Mathlib.Omega.{arith}
use lib.Dec.{lit<}
use Rattle.sequence.specs.declared.CharSeq.{CharSeq}
use Rattle.std.specs.Prelude.{Result, Ok, Err}
use Rattle.rules.specs.declared.refusal.Refusal.{Refusal}
use Rattle.rules.specs.Refusals.{Row, Decided, refusal_number}
use Rattle.sequence.specs.Sequence.{seq, unary_rows, binary_rows, Answers, UnaryAnswer, BinaryAnswer}
use Rattle.rules.proofs.Refusals.{Numbered, decided-both, decided-given, decided-not, refused-early}
use Rattle.out.specs.Out.{out_short}
use Rattle.out_operators.specs.Operators.{OperatorDone, UnaryDone, BinaryDone}
use Rattle.out_operators.specs.Inner.{SequencePut}

module _ (rows : List Row) (numbered : Numbered rows) (asked : CharSeq → Type 0) (old : List ℕ) where
  operator-done : (a : Result CharSeq Refusal) → Answers rows asked a → (k : ℕ) (new : List ℕ) → SequencePut a old k new → OperatorDone rows asked old k new
  operator-done (Err n) a k new p =
      rw p.0 (record { number = refused-early rows (out_short old ∷ []) n a.0; refused = λ _. p.1; passed = λ z. absurd (omega (arith, a.1)) })
  operator-done (Ok s) a k new (inl p) =
      rw p.1 (record {
        number = decided-both rows (out_short old ∷ []) 0 3 numbered a.0 (decided-given (out_short old) p.0);
        refused = λ _. p.2;
        passed = λ z. absurd (omega arith);
      })
  operator-done (Ok s) a k new (inr p) =
      rw p.1 (record {
        number = decided-both rows (out_short old ∷ []) 0 0 numbered a.0 (decided-not (out_short old) (λ g. omega (arith, p.0)));
        refused = λ f. absurd (f refl);
        passed = λ _. (s, a, p.2);
      })

pub unary-done : (code n x : ℕ) (a : Result CharSeq Refusal) → UnaryAnswer code (seq n x) a → (old : List ℕ) (k : ℕ) (new : List ℕ) → SequencePut a old k new → UnaryDone code n x old k new
unary-done code n x a d old k new p = operator-done (unary_rows code (seq n x)) (lit< tt, (lit< tt, (lit< tt, tt))) _ old a d k new p

pub binary-done : (code n x m y : ℕ) (a : Result CharSeq Refusal) → BinaryAnswer code (seq n x) (seq m y) a → (old : List ℕ) (k : ℕ) (new : List ℕ) → SequencePut a old k new
    → BinaryDone code n x m y old k new
binary-done code n x m y a d old k new p =
    operator-done (binary_rows code (seq n x) (seq m y)) (lit< tt, (lit< tt, (lit< tt, (lit< tt, (lit< tt, (lit< tt, tt)))))) _ old a d k new p
