-- The tokens of E2, their bytes, and how a text spells them.
-- Assumes nothing.
use Rattle.std.specs.Prelude.{◌≡◌, Bool, true, false, List, [], ◌∷◌, ◌++◌, ℕ}
use Rattle.sequence.specs.Operators.{Unary, Binary, unary_token, binary_token}
use Rattle.formula.specs.Formula.{Tree}
use Rattle.names.specs.Names.{is_name_byte}
use Rattle.text.specs.Text.{space}
use Rattle.grammar.specs.Name.{constant_text, Name}

-- a leaf as it is typed: a name by its bytes, or a constant
pub data Atom : Type 0 where
  name : List ℕ → Atom
  constant : Bool → Atom

-- a formula as it is typed, before the names are looked up
abbrev pub Typed : Type 0
Typed = Tree Atom Unary Binary

pub data Token : Type 0 where
  pre : Unary → Token
  mid : Binary → Token
  atom : Atom → Token
  opens : Token
  closes : Token

-- ---- their bytes: an operator's are the table's

abbrev pub spell_atom : Atom → List ℕ
spell_atom (name w) = w
spell_atom (constant b) = constant_text b

abbrev pub spell : Token → List ℕ
spell (pre u) = unary_token u
spell (mid o) = binary_token o
spell (atom l) = spell_atom l
spell opens = 40 ∷ []
spell closes = 41 ∷ []

abbrev pub GoodAtom : Atom → Type 0
GoodAtom (name w) = Name w
GoodAtom (constant b) = Unit

abbrev pub GoodToken : Token → Type 0
GoodToken (pre u) = Unit
GoodToken (mid o) = Unit
GoodToken (atom l) = GoodAtom l
GoodToken opens = Unit
GoodToken closes = Unit

-- ---- texts

-- the last byte is a word's
abbrev pub ends_as_word : List ℕ → Bool
ends_as_word [] = false
ends_as_word (b ∷ []) = is_name_byte b
ends_as_word (b ∷ c ∷ w) = ends_as_word (c ∷ w)

-- the tokens after which no word may go on: `X[!]` ends otherwise
abbrev pub is_word : Token → Bool
is_word (pre u) = ends_as_word (unary_token u)
is_word (mid o) = ends_as_word (binary_token o)
is_word (atom l) = true
is_word opens = false
is_word closes = false

-- the text does not begin with a word's byte
abbrev pub NoWordByte : List ℕ → Type 0
NoWordByte [] = Unit
NoWordByte (b ∷ text) = is_name_byte b ≡ false

-- "any number of spaces between tokens, needed only between two words"; before the first and after the last too
pub data SpelledBy : List Token → List ℕ → Type 0 where
  end : SpelledBy [] []
  gap : {ts : List Token} {text : List ℕ} → SpelledBy ts text → SpelledBy ts (space ∷ text)
  token : {ts : List Token} {text : List ℕ} (t : Token) → GoodToken t → (is_word t ≡ true → NoWordByte text) → SpelledBy ts text → SpelledBy (t ∷ ts) (spell t ++ text)
