-- The offsets of 11 and 13 are within the text, and a text that 12 doesn't refuse has at most 4,096 bytes.
-- Assumes nothing.
use mathlib.Core.Path.{◌≡◌, refl}
use mathlib.Core.Logic.{⊎_elim}
use mathlib.Core.List.{List, []}
use Prim.Native.Nat.{ℕ, ◌≤◌, ◌<◌}
use native.Mathlib.Decide.{dec_lt}
use native.Mathlib.Omega.{arith}
use lib.ListN.{length}
use Rattle.grammar.specs.Grammar.{Refused11}
use Rattle.reader.specs.Words.{most_bytes, FirstUnknown}

pub within-11 : {text : List ℕ} {k : ℕ} → Refused11 text k → k ≤ length text
within-11 r = ⊎_elim (λ h. omega (arith, h.0)) (λ h. omega (arith, h.0)) r.here

pub within-13 : {names : List (List ℕ)} {text : List ℕ} {k : ℕ} → FirstUnknown names text k → k ≤ length text
within-13 u = omega (arith, u.here.word.some, u.here.word.within)

pub at_most : (text : List ℕ) → ((values : List ℕ) → (values ≡ []) × (most_bytes < length text) → ⊥) → length text ≤ most_bytes
at_most text f = elim (dec_lt most_bytes (length text)) [ yes h ↦ absurd (f [] (refl, h)) | no h ↦ omega arith ]
