-- A names section of document 01: what a good name is, and the first offending byte of a section. proofs/Theorems.antt ties the two together: what
-- passes is exactly the bytes of good names.
-- Assumes nothing.
use Rattle.std.specs.Prelude.{◌≡◌, Bool, true, false, ◌||◌, ℕ, ◌≤◌, length}
use mathlib.Core.List.{List, [], ◌∷◌, Memᴰ}
use Rattle.rules.specs.Limits.{most_propositions}
use Rattle.rules.specs.Lists.{Each}
pub use Rattle.spelling.specs.Spelling.{is_letter, is_name_byte, same_bytes}
use Rattle.names.specs.Reserved.{reserved}
use Rattle.reading.specs.Reading.{section, one, Got, got, bad, Reader, and_then, byte, counted, is_in, at_end}

-- ---- their numbers

-- "names (length byte 1-16 ..)"
abbrev pub name_length : ℕ
name_length = 16

-- ---- good names

-- "length byte 1-16, then letters, digits or `_`": a name is a section of its own
abbrev pub name_bytes : List ℕ → List ℕ
name_bytes letters = section one letters

-- "a letter first"
abbrev pub fits_name : List ℕ → ℕ → Bool
fits_name [] b = is_letter b
fits_name (x ∷ before) b = is_name_byte b

-- "names (length byte 1-16, then letters, digits or `_`, a letter first, no name twice)"; E1: no reserved word
pub record GoodName (before : List (List ℕ)) (name : List ℕ) : Type 0 where
  pub some : 1 ≤ length name
  pub short : length name ≤ name_length
  pub letters : Each (λ seen b. fits_name seen b ≡ true) [] name
  pub free : Memᴰ name reserved → ⊥
  pub new : Memᴰ name before → ⊥

-- "propositions m 1 to 16", "no name twice": each name is good after those before it
abbrev pub GoodList : List (List ℕ) → Type 0
GoodList names = (1 ≤ length names) × (length names ≤ most_propositions) × Each GoodName [] names

-- ---- the first offending byte

-- "a name's bytes are judged one by one"
abbrev pub letter : List ℕ → Reader ℕ
letter before = byte (fits_name before)

-- a name that can't be taken: a reserved word, or one of those before it
abbrev pub is_taken : List (List ℕ) → List ℕ → Bool
is_taken before letters = is_in same_bytes letters reserved || is_in same_bytes letters before

-- once its bytes are there, "with number 8 at the name's length byte", "a repeated name's length byte"
abbrev pub not_taken : Bool → ℕ → List ℕ → ℕ → Got (List ℕ)
not_taken true at letters next = bad at
not_taken false at letters next = got letters next

unfoldable pub name : List (List ℕ) → Reader (List ℕ)
name before file at =
    and_then (counted 1 name_length letter file at) (λ letters next. not_taken (is_taken before letters) at letters next)

-- a names section of at most so many names
abbrev pub names_up_to : ℕ → Reader (List (List ℕ))
names_up_to most = counted 1 most name

-- a names section with nothing after it
abbrev pub whole_names : List ℕ → Got (List (List ℕ))
whole_names file = at_end (names_up_to most_propositions file 0) file

-- the names of a section
abbrev pub listed : Got (List (List ℕ)) → List (List ℕ)
listed (got names next) = names
listed (bad o) = []

abbrev pub names_in : List ℕ → List (List ℕ)
names_in file = listed (whole_names file)

abbrev pub GoodNames : List ℕ → Type 0
GoodNames file = (next : ℕ) × (whole_names file ≡ got (names_in file) next)
