-- Uniqueness: any two results that the contracts of `unary` and `binary` allow for the same input are equal, number and `out`.
-- Assumes nothing.
use mathlib.Core.Path.{◌≡◌, sym, ap, ◌∙◌}
use mathlib.Core.List.{List, ◌∷◌, []}
use Prim.Native.Nat.{ℕ}
use native.Mathlib.Decide.{ℕ_discrete}
use Rattle.sequence.specs.declared.CharSeq.{CharSeq}
use Rattle.std.specs.Prelude.{Result, Ok}
use Rattle.rules.specs.declared.refusal.Refusal.{Refusal}
use Rattle.rules.specs.Refusals.{Row}
use Rattle.sequence.specs.Sequence.{seq, unary_rows, binary_rows, Answers, UnaryRead, BinaryRead}
use Rattle.rules.proofs.Refusals.{decided-unique}
use Rattle.sequence.proofs.Unique.{unary-unique, binary-unique}
use Rattle.out.specs.Out.{word_from, written}
use Rattle.out_operators.specs.Operators.{OperatorDone, UnaryDone, BinaryDone}

operator-unique : (rows : List Row) (asked : CharSeq → Type 0) → ((s t : CharSeq) → Answers rows asked (Ok s) → Answers rows asked (Ok t) → s ≡ t)
    → (old : List ℕ) (k l : ℕ) (x y : List ℕ) → OperatorDone rows asked old k x → OperatorDone rows asked old l y → (k ≡ l) × (x ≡ y)
operator-unique rows asked one old k l x y p q =
    let n = decided-unique _ k l p.number q.number in
    elim (ℕ_discrete k 0) [
      | yes e ↦
          let a = p.passed e in
          let b = q.passed (sym n ∙ e) in
          (n, a.2 ∙ ap (λ (s : CharSeq). written (word_from 0 s.values ∷ []) old) (one a.0 b.0 a.1 b.1) ∙ sym b.2)
      | no e ↦ (n, p.refused e ∙ sym (q.refused (λ z. e (n ∙ z))))
    ]

same-sequence : {s t : CharSeq} → ◌≡◌ {A = Result CharSeq Refusal} (Ok s) (Ok t) → s ≡ t
same-sequence e = cc

pub unary-done-unique : (code n x : ℕ) (old : List ℕ) (k l : ℕ) (u v : List ℕ) → UnaryDone code n x old k u → UnaryDone code n x old l v → (k ≡ l) × (u ≡ v)
unary-done-unique code n x old k l u v p q =
    operator-unique (unary_rows code (seq n x)) (UnaryRead code (seq n x)) (λ s t a b. same-sequence (unary-unique code (seq n x) (Ok s) (Ok t) a b)) old k l u v p q

pub binary-done-unique : (code n x m y : ℕ) (old : List ℕ) (k l : ℕ) (u v : List ℕ) → BinaryDone code n x m y old k u → BinaryDone code n x m y old l v
    → (k ≡ l) × (u ≡ v)
binary-done-unique code n x m y old k l u v p q =
    operator-unique (binary_rows code (seq n x) (seq m y)) (BinaryRead code (seq n x) (seq m y))
    (λ s t a b. same-sequence (binary-unique code (seq n x) (seq m y) (Ok s) (Ok t) a b)) old k l u v p q
