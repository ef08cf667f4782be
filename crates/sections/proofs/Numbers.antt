-- A word's bytes as they are read; "no bit at or above n is set" is "below 2 ^ n".
-- Assumes nothing.
use mathlib.Core.Path.{◌≡◌, refl, sym, ◌∙◌}
use mathlib.Core.Logic.{◌↔◌}
use mathlib.Core.Bool.{Bool, true, false}
use mathlib.Core.List.{List, [], ◌∷◌}
use Prim.Native.Nat.{ℕ, ◌^◌, ◌≤◌}
use native.Mathlib.Omega.{arith}
use borrow.Author.Tests.{lt-ltb, ltb-true}
use lib.Dec.{ltb}
use lib.ListN.{length}
use Rattle.std.specs.Int.{w64, from_le_bytes}
use Rattle.words.specs.Word.{width, Wf}
use Rattle.words.proofs.At.{lt-wf, wf-lt}
use Rattle.sections.specs.Sections.{number}

-- a word's bytes, as the library reads them
pub low_first : (l : List ℕ) → length l ≡ 8 → from_le_bytes w64 l ≡ number l
unfolding number
low_first [] h = absurd (omega arith)
low_first (a ∷ []) h = absurd (omega arith)
low_first (a ∷ b ∷ []) h = absurd (omega arith)
low_first (a ∷ b ∷ c ∷ []) h = absurd (omega arith)
low_first (a ∷ b ∷ c ∷ d ∷ []) h = absurd (omega arith)
low_first (a ∷ b ∷ c ∷ d ∷ e ∷ []) h = absurd (omega arith)
low_first (a ∷ b ∷ c ∷ d ∷ e ∷ f ∷ []) h = absurd (omega arith)
low_first (a ∷ b ∷ c ∷ d ∷ e ∷ f ∷ g ∷ []) h = absurd (omega arith)
low_first (a ∷ b ∷ c ∷ d ∷ e ∷ f ∷ g ∷ i ∷ []) h = omega arith
low_first (a ∷ b ∷ c ∷ d ∷ e ∷ f ∷ g ∷ i ∷ j ∷ l) h = absurd (omega arith)

-- a test for a well-formed word of length n is the test for a number below 2 ^ n
pub clear-is : (n w : ℕ) → n ≤ width → (r : Bool) → ((r ≡ true) ↔ Wf n w) → r ≡ ltb w (2 ^ n)
clear-is n w s true h = sym (lt-ltb w (2 ^ n) (wf-lt (h.0 refl)))
clear-is n w s false h = go (ltb w (2 ^ n)) refl
  where
    go : (b : Bool) → ltb w (2 ^ n) ≡ b → false ≡ ltb w (2 ^ n)
    go true e = h.1 (lt-wf s (ltb-true w (2 ^ n) e)) ∙ sym e
    go false e = sym e
