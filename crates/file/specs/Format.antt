-- The session file of document 01: what a good file is. It is the bytes of good parts, and nothing else is.
-- Assumes nothing.
use Rattle.std.specs.Prelude.{◌≡◌, ℕ, zero, suc, ◌/◌, ◌%◌, ◌≤◌, length}
use mathlib.Core.List.{List, [], ◌∷◌, ◌++◌, flat_map, Memᴰ}
use Rattle.words.specs.Word.{width, WfRecorded}
use Rattle.sequence.specs.Operators.{Unary, Binary, unary_code, binary_code}
use Rattle.sections.specs.Numbers.{file_sessions, file_propositions}
use Rattle.rules.specs.Limits.{most_size}
pub use Rattle.sections.specs.Sections.{FileSession}
use Rattle.reading.specs.Reading.{section, one}
use Rattle.names.specs.Names.{name_bytes, GoodName}
use Rattle.rules.specs.Lists.{Each}

-- ---- the parts

pub record Parts : Type 0 where
  pub names : List (List ℕ)
  pub sessions : List FileSession
  pub unary : List ℕ
  pub binary : List ℕ
  pub constants : ℕ
  pub bound : ℕ

-- ---- their bytes

-- "words of 8 bytes, low byte first"
unfoldable pub low_first : ℕ → ℕ → List ℕ
low_first zero w = []
low_first (suc k) w = (w % 256) ∷ low_first k (w / 256)

abbrev pub word_bytes : ℕ → List ℕ
word_bytes w = low_first 8 w

-- "sessions (mark, length, then m words ..)"
abbrev pub session_bytes : FileSession → List ℕ
session_bytes s = one s.mark ++ (one s.length ++ flat_map word_bytes s.words)

-- "Sections in fixed order ..: names ..; sessions ..; unary codes; binary codes; settings (count 2: constants mark, B). Nothing follows."
abbrev pub file_bytes : Parts → List ℕ
file_bytes p =
    section name_bytes p.names
    ++ (section session_bytes p.sessions
    ++ (section one p.unary
    ++ (section one p.binary
    ++ section one (p.constants ∷ p.bound ∷ []))))

-- ---- which parts are good

-- "What the table refuses with 1, 2, 4, 5, 6 or 7 is 8 here": a mark other than 0 or 1 (6), a length above 64 (4), a bit set at or above the length (5)
pub record GoodSession (m : ℕ) (s : FileSession) : Type 0 where
  pub mark : s.mark ≤ 1
  pub short : s.length ≤ width
  pub count : length s.words ≡ m
  pub words : Each (λ _ w. WfRecorded s.length w) [] s.words

-- "code not in its group .., or repeated" (7)
abbrev pub GoodUnary : List ℕ → ℕ → Type 0
GoodUnary before c = ((op : Unary) × (unary_code op ≡ c)) × (Memᴰ c before → ⊥)

abbrev pub GoodBinary : List ℕ → ℕ → Type 0
GoodBinary before c = ((op : Binary) × (binary_code op ≡ c)) × (Memᴰ c before → ⊥)

-- r and m within their numbers (1), B and the constants mark (2)
pub record Good (p : Parts) : Type 0 where
  pub some_names : 1 ≤ length p.names
  pub few_names : length p.names ≤ file_propositions
  pub names : Each GoodName [] p.names
  pub some_sessions : 1 ≤ length p.sessions
  pub few_sessions : length p.sessions ≤ file_sessions
  pub sessions : Each (λ _ s. GoodSession (length p.names) s) [] p.sessions
  pub unary : Each GoodUnary [] p.unary
  pub binary : Each GoodBinary [] p.binary
  pub constants : p.constants ≤ 1
  pub some_bound : 1 ≤ p.bound
  pub low_bound : p.bound ≤ most_size

-- a good file is the bytes of some good parts
abbrev pub GoodFile : List ℕ → Type 0
GoodFile file = (p : Parts) × Good p × (file_bytes p ≡ file)
