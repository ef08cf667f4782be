-- The masks of the sessions, which `masks_of` writes, for every input.
-- Assumes nothing.
use Rattle.std.specs.Prelude.{◌≡◌, Bool, List, ℕ, ◌≤◌, ◌<◌, length, get_or}
use Rattle.words.specs.Word.{width, Means}
use Rattle.rules.specs.Limits.{most_sessions}
use Rattle.loops.specs.Loops.{Filled, Told}

-- the word of session j has a bit for each snapshot
abbrev pub MaskOf : List ℕ → ℕ → ℕ → Type 0
MaskOf lengths j w = Means width w (λ p. p < get_or lengths j 0)

pub record MasksAsk (r : ℕ) (lengths masks : List ℕ) : Type 0 where
  pub sessions-in : r ≤ most_sessions
  pub lengths-there : r ≤ length lengths
  pub masks-there : r ≤ length masks

abbrev pub MasksAnswer : ℕ → List ℕ → List ℕ → List ℕ → Bool → Type 0
MasksAnswer r lengths old new b = Told (MasksAsk r lengths old) (Filled r old (MaskOf lengths) new) (new ≡ old) b
