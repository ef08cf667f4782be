-- One session, step by step as the code takes it.
-- Assumes nothing.
use mathlib.Core.Path.{◌≡◌, refl, ◌∙◌}
use mathlib.Core.List.{List, []}
use Prim.Native.Nat.{ℕ}
use lib.ListN.{length}
use Rattle.words.specs.Word.{width}
use Rattle.std.proofs.Common.{Result, Ok, Err}
use Rattle.reading.specs.declared.Read.{Read}
use Rattle.reading.specs.declared.Broken.{Broken}
use Rattle.reading.specs.Reading.{Got, got, bad, and_then, each_item, byte, within, step_of}
use Rattle.sections.specs.Sections.{eight_bytes, session}
use Rattle.sections.specs.Inner.{word_count}
use Rattle.reading.proofs.Steps.{step-broken, byte-read}

module _ (file : List ℕ) (m at : ℕ) where
  pub session-no-mark : {o : Broken} → Err o ≡ step_of (λ b. b) (byte (within 0 1) file at) → Err o ≡ step_of word_count (session m file at)
  unfolding session
  session-no-mark e = rw (step-broken (λ b. b) (byte (within 0 1) file at) e)

  module _ {mark : Read} (e : Ok mark ≡ step_of (λ b. b) (byte (within 0 1) file at)) where
    pub session-no-length : {o : Broken} → Err o ≡ step_of (λ b. b) (byte (within 0 width) file mark.next) → Err o ≡ step_of word_count (session m file at)
    unfolding session
    session-no-length d = rw (byte-read (byte (within 0 1) file at) e, step-broken (λ b. b) (byte (within 0 width) file mark.next) d)

    counts : (n : ℕ) (g : Got (List ℕ)) → step_of length g ≡ step_of word_count (and_then g (λ words next. got (record { mark = mark.value; length = n; words = words }) next))
    counts n (got ws next) = refl
    counts n (bad o) = refl

    pub session-words : {n : Read} → Ok n ≡ step_of (λ b. b) (byte (within 0 width) file mark.next)
        → {r : Result Read Broken} → r ≡ step_of length (each_item (λ _. eight_bytes n.value) m [] file n.next) → r ≡ step_of word_count (session m file at)
    unfolding session
    session-words {n} d h =
        rw (byte-read (byte (within 0 1) file at) e, byte-read (byte (within 0 width) file mark.next) d)
        (h ∙ counts n.value (each_item (λ _. eight_bytes n.value) m [] file n.next))
