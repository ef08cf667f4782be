-- scarfpylon_unary and scarfpylon_binary: what they return and leave in `out`, for every input.
-- Assumes nothing.
use Rattle.std.specs.Prelude.{◌≡◌, List, [], ◌∷◌, ◌++◌, ℕ, Ok}
use Rattle.sequence.specs.declared.CharSeq.{CharSeq}
use Rattle.rules.specs.Refusals.{Row, Decided}
use Rattle.sequence.specs.Sequence.{seq, unary_rows, binary_rows, Answers, UnaryRead, BinaryRead}
use Rattle.out.specs.Out.{out_short, word_from, written}

-- "a shorter one is 3, at the place that 3 has in that entry's order (at operators last)"
abbrev pub out_last : List Row → List ℕ → List Row
out_last rows old = rows ++ (out_short old ∷ [])

-- the rows decide; "a refusal writes nothing"; else "out[0] = word", the word of the sequence that is asked for
pub record OperatorDone (rows : List Row) (asked : CharSeq → Type 0) (old : List ℕ) (returned : ℕ) (new : List ℕ) : Type 0 where
  pub number : Decided (out_last rows old) returned
  pub refused : (returned ≡ 0 → ⊥) → new ≡ old
  pub passed : returned ≡ 0 → (s : CharSeq) × Answers rows asked (Ok s) × (new ≡ written (word_from 0 s.values ∷ []) old)

-- the operator with that code, read on the sequence of that length and word
abbrev pub UnaryDone : ℕ → ℕ → ℕ → List ℕ → ℕ → List ℕ → Type 0
UnaryDone code n x old returned new = OperatorDone (unary_rows code (seq n x)) (UnaryRead code (seq n x)) old returned new

-- and on two sequences
abbrev pub BinaryDone : ℕ → ℕ → ℕ → ℕ → ℕ → List ℕ → ℕ → List ℕ → Type 0
BinaryDone code n x m y old returned new =
    OperatorDone (binary_rows code (seq n x) (seq m y)) (BinaryRead code (seq n x) (seq m y)) old returned new
