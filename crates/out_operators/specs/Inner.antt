-- What private functions of this crate promise each other. No public contract cites this.
-- Assumes nothing.
use Rattle.std.specs.Prelude.{◌≡◌, ◌⊎◌, List, [], ◌∷◌, ℕ, ◌<◌, ◌≤◌, length, Result, Ok, Err}
use Rattle.rules.specs.declared.refusal.Refusal.{Refusal}
use Rattle.rules.specs.Refusals.{refusal_number}
use Rattle.sequence.specs.declared.CharSeq.{CharSeq}
use Rattle.out.specs.Out.{out_words, word_from, written}

-- an operator's answer: `out` is looked at last
abbrev pub SequencePut : Result CharSeq Refusal → List ℕ → ℕ → List ℕ → Type 0
SequencePut (Ok s) old returned new =
    ((length old < out_words) × (returned ≡ 3) × (new ≡ old)) ⊎ ((out_words ≤ length old) × (returned ≡ 0) × (new ≡ written (word_from 0 s.values ∷ []) old))
SequencePut (Err refusal) old returned new = (returned ≡ refusal_number refusal) × (new ≡ old)
