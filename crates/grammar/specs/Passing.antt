-- For the reader's private functions: what it means that a part of the text was read, in terms of the scan of what is left.
-- Assumes nothing.
use Rattle.std.specs.Prelude.{◌≡◌, cond, List, [], ◌∷◌, ◌++◌, ℕ, suc, ◌+◌, ◌-◌, ◌≤◌, ◌<◌, eqb, length, drop}
use Rattle.sequence.specs.Operators.{Unary, Binary}
use Rattle.formula.specs.Formula.{size}
use Rattle.formula.specs.Nodes.{Node, Codes}
use Rattle.grammar.specs.Nodes.{nodes_of}
use Rattle.grammar.specs.Token.{Atom, Typed, Token}
use Rattle.sequence.specs.Operators.Binary.{or, and, until, release, implies, equiv}
use Rattle.names.specs.Names.{is_name_byte}
use Rattle.grammar.specs.Grammar.{level, left_level, Derives}
use Rattle.grammar.specs.Scan.{Sign, blank, bang, opener, closer, amp, bar, dash, less, other, Kind, wordy, square, sign, kind, ScanState, ready, after, Scan, good, bad, scan}

-- these tokens, n bytes further on
abbrev pub scan_ahead : ℕ → List Token → Scan → Scan
scan_ahead n out (good ts) = good (out ++ ts)
scan_ahead n out (bad k) = bad (n + k)

-- from one offset to the next the text spells these tokens, and takes the scan from one state to another
pub record ScanPasses (text : List ℕ) (s : ScanState) (at : ℕ) (ts : List Token) (t : ScanState) (next : ℕ) : Type 0 where
  pub forward : at ≤ next
  pub within : next ≤ length text
  pub is : scan s (drop at text) ≡ scan_ahead (next - at) ts (scan t (drop next text))

-- from an offset on the scan stops at k
pub record Stops (text : List ℕ) (s : ScanState) (at k : ℕ) : Type 0 where
  pub forward : at ≤ k
  pub within : k ≤ length text
  pub is : scan s (drop at text) ≡ bad (k - at)

-- ---- the infix operator that comes next

pub data Peek : Type 0 where
  -- it, and the bytes up to its end
  op : Binary → ℕ → Peek
  -- no operator; the spaces before whatever is there
  nothing : ℕ → Peek
  -- one begins, and the byte after these can't go on with it
  cut : ℕ → Peek

abbrev pub further : Peek → Peek
further (op o n) = op o (suc n)
further (nothing n) = nothing (suc n)
further (cut n) = cut (suc n)

-- the bytes of an operator's token that are still to come
unfoldable pub expect : List ℕ → Binary → List ℕ → Peek
expect [] o text = op o 0
expect (c ∷ cs) o [] = cut 0
expect (c ∷ cs) o (b ∷ text) = cond (eqb b c) (further (expect cs o text)) (cut 0)

-- an operator that is a word: no word's byte may follow
abbrev pub alone : Binary → List ℕ → Peek
alone o [] = op o 1
alone o (b ∷ text) = cond (is_name_byte b) (cut 1) (op o 1)

-- by the first byte, with what comes next behind a space
abbrev pub peek_sign : Sign → List ℕ → Peek → Peek
peek_sign blank text below = further below
peek_sign bang text below = nothing 0
peek_sign opener text below = nothing 0
peek_sign closer text below = nothing 0
peek_sign amp text below = op and 1
peek_sign bar text below = op or 1
peek_sign dash text below = further (expect (62 ∷ []) implies text)
peek_sign less text below = further (expect (45 ∷ 62 ∷ []) equiv text)
peek_sign other text below = nothing 0

abbrev pub peek_kind : ℕ → Kind → List ℕ → Peek → Peek
peek_kind b (wordy l) text below = cond (eqb b 85) (alone until text) (cond (eqb b 82) (alone release text) (nothing 0))
peek_kind b square text below = nothing 0
peek_kind b (sign s) text below = peek_sign s text below

unfoldable pub peek : List ℕ → Peek
peek [] = nothing 0
peek (b ∷ text) = peek_kind b (kind b) text (peek text)

abbrev pub IfOp : (Binary → Type 0) → Type 0 → Peek → Type 0
IfOp P C (op o n) = P o
IfOp P C (nothing n) = Unit
IfOp P C (cut n) = C

-- no operator of this level or above goes on, and none is cut short
abbrev pub QuietAt : List ℕ → ℕ → ℕ → Type 0
QuietAt text n at = IfOp (λ o. level o < n) ⊥ (peek (drop at text))

-- the operator, if one comes, takes an expression of this level as its left side
abbrev pub CalmAt : List ℕ → ℕ → ℕ → Type 0
CalmAt text n at = IfOp (λ o. left_level o ≤ n) Unit (peek (drop at text))

-- ---- what the readers answer, whatever brackets are open

-- an expression of this level stands between the offsets
pub record Expression (text : List ℕ) (n at next : ℕ) (tree : Typed) : Type 0 where
  pub tokens : List Token
  pub passes : (d : ℕ) → ScanPasses text (ready d) at tokens (after d) next
  pub derived : Derives n tokens tree

-- no expression: the byte at k can't continue one
abbrev pub Refuses : List ℕ → ℕ → ℕ → Type 0
Refuses text at k = (d : ℕ) → Stops text (ready d) at k

-- after an expression: what goes on between the offsets makes it one of this level and size, and these nodes go behind the expression's, which
-- stand from a place on
pub record Continued (C : Codes Atom Unary Binary) (place : ℕ) (text : List ℕ) (n at next : ℕ) (xs : List Token) (t : Typed) (m : ℕ) (more : List Node) : Type 0 where
  pub tree : Typed
  pub sized : size tree ≡ m
  pub tokens : List Token
  pub passes : (d : ℕ) → ScanPasses text (after d) at tokens (after d) next
  pub derived : Derives n (xs ++ tokens) tree
  pub grows : nodes_of C place tree ≡ nodes_of C place t ++ more

-- .. whatever expression of its size it was
abbrev pub Continues : Codes Atom Unary Binary → ℕ → List ℕ → ℕ → ℕ → ℕ → ℕ → ℕ → List Node → Type 0
Continues C place text n at next before m more =
    (p : ℕ) (xs : List Token) (t : Typed) → n ≤ p → Derives p xs t → size t ≡ before → CalmAt text p at → Continued C place text n at next xs t m more
