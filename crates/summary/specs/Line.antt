-- One line of the report, byte by byte. Every line ends in a newline.
-- Assumes nothing.
use Rattle.std.specs.Prelude.{List, [], ◌∷◌, ◌++◌, ℕ, Option, Some, None}
use Rattle.writing.specs.Writing.{decimal, newline}
use Rattle.summary.specs.declared.values.Summary.{Summary}

-- a blank between (docs/DECISIONS.md)
abbrev pub blank : List ℕ
blank = 32 ∷ []

-- ` root`: "then the root itself as `root`"
abbrev pub root_word : List ℕ
root_word = 32 ∷ 114 ∷ 111 ∷ 111 ∷ 116 ∷ []

-- "the two firsts (`-` for never)"
abbrev pub first_text : Option ℕ → List ℕ
first_text None = 45 ∷ []
first_text (Some p) = decimal p

-- "the two firsts .., count"
abbrev pub summary_text : Summary → List ℕ
summary_text s = blank ++ (first_text s.holds ++ (blank ++ (first_text s.fails ++ (blank ++ (decimal s.count ++ newline)))))

-- "session, place, the two firsts .., count"
abbrev pub place_line : ℕ → ℕ → Summary → List ℕ
place_line j p s = decimal j ++ (blank ++ (decimal p ++ summary_text s))

abbrev pub root_line : ℕ → Summary → List ℕ
root_line j s = decimal j ++ (root_word ++ summary_text s)
