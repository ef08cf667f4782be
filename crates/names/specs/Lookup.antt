-- Which name stands where in a section's bytes, whatever they are: the names follow one another, each after its length byte. Of a good section these are
-- its names (proofs/Starts.antt).
-- Assumes nothing.
use Rattle.std.specs.Prelude.{cond, List, [], ◌∷◌, ℕ, zero, suc, ◌+◌, min, ◌≡◌, length, get_or, take, drop, Option, Some, None}
use Rattle.names.specs.declared.lookup.Span.{Span}
use Rattle.names.specs.Names.{same_bytes}

-- so many names from an offset on, and where they end
unfoldable pub names_from : List ℕ → ℕ → ℕ → List (List ℕ)
names_from file zero p = []
names_from file (suc count) p = take (get_or file p 0) (drop (p + 1) file) ∷ names_from file count (p + 1 + get_or file p 0)

unfoldable pub walk_end : List ℕ → ℕ → ℕ → ℕ
walk_end file zero p = p
walk_end file (suc count) p = walk_end file count (p + 1 + get_or file p 0)

-- where name number p stands: from the byte after its length byte up to the next name, as far as there are bytes
pub record LettersAt (file : List ℕ) (p : ℕ) (s : Span) : Type 0 where
  pub from : s.from ≡ min (length file) (walk_end file p 1 + 1)
  pub to : s.to ≡ min (length file) (walk_end file (p + 1) 1)

-- the first of the names, numbered from i on, that has these bytes
unfoldable pub find_from : ℕ → List ℕ → List (List ℕ) → Option ℕ
find_from i word [] = None
find_from i word (name ∷ names) = cond (same_bytes word name) (Some i) (find_from (i + 1) word names)

-- as many names as the count says
abbrev pub names_by : List ℕ → List (List ℕ)
names_by file = names_from file (get_or file 0 0) 1

abbrev pub found_in : List ℕ → List ℕ → Option ℕ
found_in file word = find_from 0 word (names_by file)
