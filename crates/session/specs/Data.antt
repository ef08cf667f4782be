-- The tests of session data that search and check share: rows of the refusal table. A list longer than asked is good, and the rest of it is not looked at.
-- Assumes nothing.
use Rattle.std.specs.Prelude.{◌⊎◌, List, [], ◌∷◌, ℕ, ◌*◌, ◌<◌, ◌≤◌, length}
use Rattle.words.specs.Word.{width, At}
use Rattle.rules.specs.Refusals.{Row}
use Rattle.session.specs.Recording.{Recording, mark_of, length_of, word_of}
use Rattle.rules.specs.Limits.{most_sessions, most_propositions, Outside}

-- "1: r or m outside its numbers"
abbrev pub outside_numbers : ℕ → ℕ → Row
outside_numbers r m = record { number = 1; given = Outside 1 most_sessions r ⊎ Outside 1 most_propositions m }

module _ (d : Recording) where
  -- "3: a lent slice shorter than r, m x r .."
  abbrev pub too_short : Row
  too_short = record {
    number = 3;
    given = (length d.marks < d.sessions) ⊎ (length d.lengths < d.sessions) ⊎ (length d.words < d.propositions * d.sessions);
  }

  -- "4: a length above 64"
  abbrev pub too_long : Row
  too_long = record { number = 4; given = (i : ℕ) × (i < d.sessions) × (width < length_of d i) }

  -- "5: a bit set at or above the length"
  abbrev pub bit_above : Row
  bit_above = record {
    number = 5;
    given = (i : ℕ) × (i < d.sessions) × (p : ℕ) × (p < d.propositions) × (b : ℕ) × (length_of d i ≤ b) × At (word_of d i p) b;
  }

  -- "6: a mark other than 0 or 1"
  abbrev pub mark_wrong : Row
  mark_wrong = record { number = 6; given = (i : ℕ) × (i < d.sessions) × (1 < mark_of d i) }

  -- "Order of checks: 1, 2, 3, 4, 5, 6, ..", of which these are the data's: each over all sessions before the next number
  abbrev pub data_rows : List Row
  data_rows = outside_numbers d.sessions d.propositions ∷ too_short ∷ too_long ∷ bit_above ∷ mark_wrong ∷ []
