-- Session data as they are lent: the number of sessions r, the number of propositions m, and the lists of marks, lengths and words.
-- Assumes nothing.
use Rattle.std.specs.Prelude.{List, ℕ, ◌+◌, ◌*◌, get_or}

-- of marks, lengths and words what is beyond r, r and m x r is not looked at
pub record Recording : Type 0 where
  pub sessions : ℕ
  pub propositions : ℕ
  pub marks : List ℕ
  pub lengths : List ℕ
  pub words : List ℕ

abbrev pub recording : ℕ → ℕ → List ℕ → List ℕ → List ℕ → Recording
recording r m marks lengths words = record { sessions = r; propositions = m; marks = marks; lengths = lengths; words = words }

module _ (d : Recording) where
  abbrev pub mark_of : ℕ → ℕ
  mark_of j = get_or d.marks j 0

  abbrev pub length_of : ℕ → ℕ
  length_of j = get_or d.lengths j 0

  -- "the propositions' words lie m per session"
  abbrev pub word_of : ℕ → ℕ → ℕ
  word_of j p = get_or d.words (j * d.propositions + p) 0
