-- Formulas as trees, and when a session accepts one: LTL on finite traces, with no word, matrix or table.
-- Assumes nothing.
use Rattle.std.specs.Prelude.{◌≡◌, ◌↔◌, Bool, true, List, [], ◌∷◌, ℕ, ◌+◌, ◌<◌}
use Rattle.rules.specs.Lists.{◌∈◌}
use Rattle.words.specs.Ltlf.{Reading, AcceptsAt}
use Rattle.sequence.specs.Operators.{Unary, Binary, unary_code, binary_code, unary_reading, binary_reading}

-- a formula over leaves L, unary operators U and binary operators B
pub data Tree (L U B : Type 0) : Type 0 where
  leaf : L → Tree L U B
  unary : U → Tree L U B → Tree L U B
  binary : B → Tree L U B → Tree L U B → Tree L U B

-- "Size: a leaf counts 1; an operator 1 plus its children." What an operator counts:
abbrev pub weight : {O : Type 0} → O → ℕ
weight op = 1

abbrev pub size : {L U B : Type 0} → Tree L U B → ℕ
size (leaf c) = 1
size (unary op t) = weight op + size t
size (binary op l r) = weight op + size l + size r

-- "Leaves: 16 proposition, 17 false, 18 true"
pub data Leaf : Type 0 where
  proposition : ℕ → Leaf
  constant : Bool → Leaf

abbrev pub Formula : Type 0
Formula = Tree Leaf Unary Binary

-- ---- the reading

-- what was recorded: how many snapshots, and at which of them each proposition holds
pub record Trace : Type 1 where
  pub length : ℕ
  pub holds : ℕ → Reading

-- true holds at every position, false at none
abbrev pub LeafHolds : Trace → Leaf → Reading
LeafHolds τ (proposition p) = τ.holds p
LeafHolds τ (constant b) = λ i. b ≡ true

-- the positions of a trace at which a formula holds
abbrev pub Holds : Trace → Formula → Reading
Holds τ (leaf c) = LeafHolds τ c
Holds τ (unary op t) = unary_reading op τ.length (Holds τ t)
Holds τ (binary op l r) = binary_reading op τ.length (Holds τ l) (Holds τ r)

-- "A session accepts a formula if .. the formula holds at 0.": an empty session too (document 02, E4)
abbrev pub Accepts : Trace → Formula → Type 0
Accepts τ t = AcceptsAt (Holds τ t)

-- a recorded session and its mark, 1 for good and 0 for bad
pub record MarkedTrace : Type 1 where
  pub mark : ℕ
  pub trace : Trace

-- exactly the good sessions accept the formula
abbrev pub Separates : List MarkedTrace → Formula → Type 0
Separates [] t = Unit {0}
Separates (s ∷ ss) t = ((s.mark ≡ 1) ↔ Accepts s.trace t) × Separates ss t

-- ---- what was offered

-- how many propositions, the constants' mark, and the operators' codes
pub record Language : Type 0 where
  pub propositions : ℕ
  pub constants : ℕ
  pub unary : List ℕ
  pub binary : List ℕ

abbrev pub LeafOffered : Language → Leaf → Type 0
LeafOffered ℒ (proposition p) = p < ℒ.propositions
LeafOffered ℒ (constant b) = ℒ.constants ≡ 1

-- the formula uses only what was offered
abbrev pub Offered : Language → Formula → Type 0
Offered ℒ (leaf c) = LeafOffered ℒ c
Offered ℒ (unary op t) = (unary_code op ∈ ℒ.unary) × Offered ℒ t
Offered ℒ (binary op l r) = (binary_code op ∈ ℒ.binary) × Offered ℒ l × Offered ℒ r
