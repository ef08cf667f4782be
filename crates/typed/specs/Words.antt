-- What of a text is judged besides its grammar: the words in it, and how deep its brackets nest.
-- Assumes nothing.
use Rattle.std.specs.Prelude.{◌≡◌, true, false, cond, ℕ, suc, ◌+◌, ◌-◌, ◌≤◌, ◌<◌, eqb, length, take, drop, get_or}
use mathlib.Core.List.{List, [], ◌∷◌, Memᴰ}
use Rattle.names.specs.Names.{is_name_byte}
use Rattle.names.specs.Reserved.{reserved}

-- "to 64 brackets deep"
abbrev pub most_brackets : ℕ
most_brackets = 64

-- ---- words

-- from k up to e stands a word: a longest run of letters, digits and `_`. Of a formula's text these are the names, and the words among the
-- operators and constants.
pub record WordAt (text : List ℕ) (k e : ℕ) : Type 0 where
  pub some : k < e
  pub within : e ≤ length text
  pub bytes : (j : ℕ) → k ≤ j → j < e → is_name_byte (get_or text j 0) ≡ true
  pub begins : (j : ℕ) → suc j ≡ k → is_name_byte (get_or text j 0) ≡ false
  pub ends : is_name_byte (get_or text e 0) ≡ false

-- at k stands an unknown name: a word that is none of the names and not reserved, so no operator or constant
pub record UnknownAt (names : List (List ℕ)) (text : List ℕ) (k : ℕ) : Type 0 where
  pub end : ℕ
  pub word : WordAt text k end
  pub free : Memᴰ (take (end - k) (drop k text)) reserved → ⊥
  pub new : Memᴰ (take (end - k) (drop k text)) names → ⊥

-- "13 with the offset of the first unknown name"
pub record FirstUnknown (names : List (List ℕ)) (text : List ℕ) (k : ℕ) : Type 0 where
  pub here : UnknownAt names text k
  pub before : (j : ℕ) → j < k → UnknownAt names text j → ⊥

-- ---- brackets

-- how many of a list's bytes are this one
unfoldable pub how_many : ℕ → List ℕ → ℕ
how_many b [] = 0
how_many b (x ∷ xs) = cond (eqb x b) 1 0 + how_many b xs

-- after j bytes more than 64 brackets are open: those opened, less those closed
abbrev pub DeepAt : List ℕ → ℕ → Type 0
DeepAt text j = most_brackets + how_many 41 (take j text) < how_many 40 (take j text)

-- "12 if .. brackets 64": the nesting, not their number
abbrev pub Deep : List ℕ → Type 0
Deep text = (j : ℕ) × DeepAt text j
