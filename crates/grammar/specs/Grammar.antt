-- The grammar of E2, with no parser in it, and the offset of refusal 11.
-- Assumes nothing.
use Rattle.std.specs.Prelude.{◌≡◌, ◌⊎◌, List, [], ◌∷◌, ◌++◌, ℕ, suc, ◌<◌, length, take}
use Rattle.sequence.specs.Operators.{Unary, Binary}
use Rattle.sequence.specs.Operators.Binary.{or, and, until, release, implies, equiv}
use Rattle.formula.specs.Formula.{leaf, unary, binary}
use Rattle.grammar.specs.Token.{Atom, Typed, Token, pre, mid, atom, opens, closes, SpelledBy}

-- "then .. `U` and `R` (right), `&` (left), `|` (left), lowest `->` and `<->` together (right)"
abbrev pub level : Binary → ℕ
level until = 3
level release = 3
level and = 2
level or = 1
level implies = 0
level equiv = 0

-- the lowest level that may stand unbracketed at the left, and at the right: the operator's own at the side to which it associates, else one above
abbrev pub left_level : Binary → ℕ
left_level until = 4
left_level release = 4
left_level and = 2
left_level or = 1
left_level implies = 1
left_level equiv = 1

abbrev pub right_level : Binary → ℕ
right_level until = 3
right_level release = 3
right_level and = 3
right_level or = 2
right_level implies = 0
right_level equiv = 0

-- "Prefix binds tighter than infix": an operand is of level 4
abbrev pub operand : ℕ
operand = 4

-- the tokens are an expression of this level, and this is its tree
pub data Derives : ℕ → List Token → Typed → Type 0 where
  alone : (l : Atom) → Derives operand (atom l ∷ []) (leaf l)
  prefix : {ts : List Token} {t : Typed} (u : Unary) → Derives operand ts t → Derives operand (pre u ∷ ts) (unary u t)
  -- "Expressions contain bracketed expressions and so on down"
  bracket : {ts : List Token} {t : Typed} → Derives 0 ts t → Derives operand (opens ∷ (ts ++ (closes ∷ []))) t
  between : {ls rs : List Token} {l r : Typed} (o : Binary)
      → Derives (left_level o) ls l → Derives (right_level o) rs r → Derives (level o) (ls ++ (mid o ∷ rs)) (binary o l r)
  -- what binds tighter may stand where less is asked
  looser : {n : ℕ} {ts : List Token} {t : Typed} → Derives (suc n) ts t → Derives n ts t

-- the text is a formula, and this is its tree
pub record Reads (text : List ℕ) (tree : Typed) : Type 0 where
  pub tokens : List Token
  pub spelt : SpelledBy tokens text
  pub derived : Derives 0 tokens tree

abbrev pub IsFormula : List ℕ → Type 0
IsFormula text = (tree : Typed) × Reads text tree

-- some formula begins so, whatever its names, size and depth
abbrev pub Starts : List ℕ → Type 0
Starts text = (more : List ℕ) × IsFormula (text ++ more)

-- "11 with the offset of the first byte that can't continue a formula (the text's length if it ends early)"
pub record Refused11 (text : List ℕ) (k : ℕ) : Type 0 where
  pub before : (j : ℕ) → j < k → Starts (take (suc j) text)
  pub here : ((k < length text) × (Starts (take (suc k) text) → ⊥)) ⊎ ((k ≡ length text) × (IsFormula text → ⊥))
