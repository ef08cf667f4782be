-- The rows of the leaves, session by session, and what is written of them, for every input.
-- Assumes nothing.
use Rattle.std.specs.Prelude.{◌≡◌, List, ℕ, ◌+◌, ◌*◌, ◌≤◌, ◌<◌, length, get_or}
use Rattle.words.specs.Masked.{PlacesOn}
use Rattle.words.specs.Word.{width, At, Means}
use Rattle.rules.specs.Limits.{most_sessions, most_propositions}
use Rattle.loops.specs.Loops.{Filled, Done}

-- "the propositions' words lie m per session": that of proposition p, as it was recorded
abbrev pub PropositionRow : ℕ → List ℕ → ℕ → ℕ → ℕ → Type 0
PropositionRow m words p j w = w ≡ get_or words (j * m + p) 0

pub record PropositionAsk (r m : ℕ) (words : List ℕ) (p : ℕ) (rows : List ℕ) : Type 0 where
  pub sessions-in : r ≤ most_sessions
  pub propositions-in : m ≤ most_propositions
  pub number_in : p < m
  pub words-there : m * r ≤ length words
  pub rows-there : r ≤ length rows

abbrev pub PropositionOver : ℕ → ℕ → List ℕ → ℕ → List ℕ → List ℕ → Type 0
PropositionOver r m words p old new = Done (PropositionAsk r m words p old) (Filled r old (PropositionRow m words p) new) (new ≡ old)

-- false has no place
abbrev pub FalseRow : ℕ → ℕ → Type 0
FalseRow j w = w ≡ 0

abbrev pub FalseOver : ℕ → List ℕ → List ℕ → Type 0
FalseOver r old new = Done (r ≤ length old) (Filled r old FalseRow new) (new ≡ old)

-- true has every place
abbrev pub TrueRow : List ℕ → ℕ → ℕ → Type 0
TrueRow masks j w = Means width w (PlacesOn (At (get_or masks j 0)))

pub record TrueAsk (r : ℕ) (masks rows : List ℕ) : Type 0 where
  pub masks-there : r ≤ length masks
  pub rows-there : r ≤ length rows

abbrev pub TrueOver : ℕ → List ℕ → List ℕ → List ℕ → Type 0
TrueOver r masks old new = Done (TrueAsk r masks old) (Filled r old (TrueRow masks) new) (new ≡ old)
