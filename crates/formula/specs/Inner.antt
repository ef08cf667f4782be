-- How private functions speak of nodes that pass the rule. No public contract cites this file, so nothing here has to be believed.
-- Assumes nothing.
use Rattle.std.specs.Prelude.{◌≡◌, Bool, true, false, List, ℕ, ◌<◌}
use Rattle.formula.specs.Nodes.{Node, node_at}
use Rattle.formula.specs.Rule.{Fault}
use Rattle.formula.specs.Faultless.{Fits, AllFit}

module _ (m : ℕ) (k : List Node) where
  -- what a test of one node says
  abbrev pub NodeJudged : ℕ → Node → Bool → Type 0
  NodeJudged below n true = Fits m k below n
  NodeJudged below n false = Fault m k below n

  -- what a test of the whole list says
  abbrev pub AllJudged : ℕ → Bool → Type 0
  AllJudged count true = AllFit m k count
  AllJudged count false = (p : ℕ) × (p < count) × Fault m k p (node_at k p)

-- a leaf's test looks at no other node
abbrev pub LeafJudged : ℕ → Node → Bool → Type 0
LeafJudged m n r = (k : List Node) (below : ℕ) → NodeJudged m k below n r

-- an operator's looks at the sizes of its children, wherever they are listed
abbrev pub UnaryJudged : ℕ → Node → ℕ → Bool → Type 0
UnaryJudged below n l r = (m : ℕ) (k : List Node) → (node_at k n.left).size ≡ l → NodeJudged m k below n r

abbrev pub BinaryJudged : ℕ → Node → ℕ → ℕ → Bool → Type 0
BinaryJudged below n l r a = (m : ℕ) (k : List Node) → (node_at k n.left).size ≡ l → (node_at k n.right).size ≡ r → NodeJudged m k below n a
