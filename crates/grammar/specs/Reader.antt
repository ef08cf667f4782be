-- A reader from tokens to the tree, by recursive descent with a level, structural on fuel.
-- Assumes nothing.
use Rattle.std.specs.Prelude.{cond, List, [], ◌∷◌, ℕ, zero, suc, ◌+◌, ◌*◌, leb, length}
use Rattle.formula.specs.Formula.{leaf, unary, binary}
use Rattle.grammar.specs.Token.{Typed, Token, pre, mid, atom, opens, closes}
use Rattle.grammar.specs.Grammar.{level, right_level}
use Rattle.grammar.specs.Scan.{Scan, good, bad, scan_text}

-- a tree and the tokens after it
pub data Read : Type 0 where
  got : Typed → List Token → Read
  none : Read

abbrev pub read_then : Read → (Typed → List Token → Read) → Read
read_then (got t ts) f = f t ts
read_then none f = none

-- the closing bracket after a tree
abbrev pub closed : Typed → List Token → Read
closed t [] = none
closed t (pre u ∷ ts) = none
closed t (mid o ∷ ts) = none
closed t (atom l ∷ ts) = none
closed t (opens ∷ ts) = none
closed t (closes ∷ ts) = got t ts

unfoldable mutual
  -- an expression whose infix operators outside brackets are of level n or above
  pub read_infix : ℕ → ℕ → List Token → Read
  read_infix zero n ts = none
  read_infix (suc k) n ts = read_then (read_prefix k ts) (λ t rest. read_more k n t rest)

  -- an operand
  pub read_prefix : ℕ → List Token → Read
  read_prefix zero ts = none
  read_prefix (suc k) [] = none
  read_prefix (suc k) (pre u ∷ ts) = read_then (read_prefix k ts) (λ t rest. got (unary u t) rest)
  read_prefix (suc k) (mid o ∷ ts) = none
  read_prefix (suc k) (atom l ∷ ts) = got (leaf l) ts
  read_prefix (suc k) (opens ∷ ts) = read_then (read_infix k 0 ts) (λ t rest. closed t rest)
  read_prefix (suc k) (closes ∷ ts) = none

  -- what goes on after an operand: operators of level n or above, each with its right side
  pub read_more : ℕ → ℕ → Typed → List Token → Read
  read_more zero n t ts = none
  read_more (suc k) n t [] = got t []
  read_more (suc k) n t (pre u ∷ ts) = got t (pre u ∷ ts)
  read_more (suc k) n t (mid o ∷ ts) =
      cond (leb n (level o))
      (read_then (read_infix k (right_level o) ts) (λ r rest. read_more k n (binary o t r) rest))
      (got t (mid o ∷ ts))
  read_more (suc k) n t (atom l ∷ ts) = got t (atom l ∷ ts)
  read_more (suc k) n t (opens ∷ ts) = got t (opens ∷ ts)
  read_more (suc k) n t (closes ∷ ts) = got t (closes ∷ ts)

abbrev pub fuel : List Token → ℕ
fuel ts = 1 + 2 * length ts

abbrev pub read_tokens : List Token → Read
read_tokens ts = read_infix (fuel ts) 0 ts

abbrev pub read_scan : Scan → Read
read_scan (good ts) = read_tokens ts
read_scan (bad k) = none

-- from a text's bytes
abbrev pub read_text : List ℕ → Read
read_text text = read_scan (scan_text text)
