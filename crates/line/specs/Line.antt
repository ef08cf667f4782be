-- The lines that the programs write, byte by byte. Every line ends in a newline.
-- Assumes nothing.
use Rattle.std.specs.Prelude.{List, [], ◌∷◌, ◌++◌, ℕ}
use Rattle.writing.specs.Writing.{decimal, newline}

-- ---- the words of a line, as bytes

-- `found size `
abbrev pub found_size_word : List ℕ
found_size_word = 102 ∷ 111 ∷ 117 ∷ 110 ∷ 100 ∷ 32 ∷ 115 ∷ 105 ∷ 122 ∷ 101 ∷ 32 ∷ []

-- `full size `
abbrev pub full_size_word : List ℕ
full_size_word = 102 ∷ 117 ∷ 108 ∷ 108 ∷ 32 ∷ 115 ∷ 105 ∷ 122 ∷ 101 ∷ 32 ∷ []

-- `none`
abbrev pub none_word : List ℕ
none_word = 110 ∷ 111 ∷ 110 ∷ 101 ∷ []

-- ` tried `
abbrev pub tried_word : List ℕ
tried_word = 32 ∷ 116 ∷ 114 ∷ 105 ∷ 101 ∷ 100 ∷ 32 ∷ []

-- ` kept `
abbrev pub kept_word : List ℕ
kept_word = 32 ∷ 107 ∷ 101 ∷ 112 ∷ 116 ∷ 32 ∷ []

-- ` dropped `
abbrev pub dropped_word : List ℕ
dropped_word = 32 ∷ 100 ∷ 114 ∷ 111 ∷ 112 ∷ 112 ∷ 101 ∷ 100 ∷ 32 ∷ []

-- `refused 8 at `
abbrev pub broken_at_word : List ℕ
broken_at_word = 114 ∷ 101 ∷ 102 ∷ 117 ∷ 115 ∷ 101 ∷ 100 ∷ 32 ∷ 56 ∷ 32 ∷ 97 ∷ 116 ∷ 32 ∷ []

-- `refused `
abbrev pub refused_word : List ℕ
refused_word = 114 ∷ 101 ∷ 102 ∷ 117 ∷ 115 ∷ 101 ∷ 100 ∷ 32 ∷ []

-- ---- the lines of a search

-- ` tried .. kept ..`, and request E6's "A first line other than a refusal ends in ` dropped N`"
abbrev pub count_words : ℕ → ℕ → ℕ → List ℕ
count_words tried kept dropped = tried_word ++ (decimal tried ++ (kept_word ++ (decimal kept ++ (dropped_word ++ (decimal dropped ++ newline)))))

-- `found size .. tried .. kept .. dropped ..`
abbrev pub found_line : ℕ → ℕ → ℕ → ℕ → List ℕ
found_line size tried kept dropped = found_size_word ++ (decimal size ++ count_words tried kept dropped)

-- `none tried .. kept .. dropped ..`
abbrev pub none_line : ℕ → ℕ → ℕ → List ℕ
none_line tried kept dropped = none_word ++ count_words tried kept dropped

-- `full size .. tried .. kept .. dropped ..`
abbrev pub full_line : ℕ → ℕ → ℕ → ℕ → List ℕ
full_line size tried kept dropped = full_size_word ++ (decimal size ++ count_words tried kept dropped)

-- `refused 8 at ..`
abbrev pub broken_line : ℕ → List ℕ
broken_line at = broken_at_word ++ (decimal at ++ newline)

-- `refused ..`, for a number that has no offset
abbrev pub refused_line : ℕ → List ℕ
refused_line number = refused_word ++ (decimal number ++ newline)

-- ---- the lines of a typed formula

-- `separates`
abbrev pub separates_line : List ℕ
separates_line = 115 ∷ 101 ∷ 112 ∷ 97 ∷ 114 ∷ 97 ∷ 116 ∷ 101 ∷ 115 ∷ 10 ∷ []

-- `session `
abbrev pub session_word : List ℕ
session_word = 115 ∷ 101 ∷ 115 ∷ 115 ∷ 105 ∷ 111 ∷ 110 ∷ 32 ∷ []

-- ` disagrees`
abbrev pub disagrees_word : List ℕ
disagrees_word = 32 ∷ 100 ∷ 105 ∷ 115 ∷ 97 ∷ 103 ∷ 114 ∷ 101 ∷ 101 ∷ 115 ∷ 10 ∷ []

-- `session .. disagrees`
abbrev pub disagrees_line : ℕ → List ℕ
disagrees_line session = (session_word ++ decimal session) ++ disagrees_word

-- ` at `
abbrev pub at_word : List ℕ
at_word = 32 ∷ 97 ∷ 116 ∷ 32 ∷ []

-- `refused .. at ..`
abbrev pub refused_at_line : ℕ → ℕ → List ℕ
refused_at_line number at = ((refused_word ++ decimal number) ++ (at_word ++ decimal at)) ++ newline
