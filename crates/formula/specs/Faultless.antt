-- The rule of a node list from its other side: what a node is that has no fault (fits-whole and whole-fits, in proofs/Faults, tie it to `Rule`). Cited by
-- the private definitions of this and other crates.
-- Assumes nothing.
use Rattle.std.specs.Prelude.{◌≡◌, List, ℕ, ◌+◌, ◌≤◌, ◌<◌}
use Rattle.rules.specs.Limits.{most_size}
use Rattle.sequence.specs.Operators.{Unary, Binary, unary_code, binary_code}
use Rattle.formula.specs.Formula.{Leaf, proposition, constant}
use Rattle.formula.specs.Nodes.{Node, node_at, leaf_code, leaf_number}

abbrev pub LeafIn : ℕ → Leaf → Type 0
LeafIn m (proposition p) = p < m
LeafIn m (constant b) = Unit {0}

module _ (m : ℕ) (k : List Node) where
  -- a node without fault, by what it is
  pub data Fits (below : ℕ) (n : Node) : Type 0 where
    leaf : (c : Leaf) → n.code ≡ leaf_code c → n.left ≡ leaf_number c → LeafIn m c → n.right ≡ 0 → n.size ≡ 1 → Fits below n
    unary : (op : Unary) → n.code ≡ unary_code op → n.left < below → n.right ≡ 0
        → n.size ≡ 1 + (node_at k n.left).size → n.size ≤ most_size → Fits below n
    binary : (op : Binary) → n.code ≡ binary_code op → n.left < below → n.right < below
        → n.size ≡ 1 + (node_at k n.left).size + (node_at k n.right).size → n.size ≤ most_size → Fits below n

  -- the first `count` nodes are without fault
  abbrev pub AllFit : ℕ → Type 0
  AllFit count = (p : ℕ) → p < count → Fits p (node_at k p)
