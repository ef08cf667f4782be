-- The rule of a node list, whoever wrote it: number 9 of the table.
-- Assumes nothing.
use Rattle.std.specs.Prelude.{◌≡◌, ◌⊎◌, List, ℕ, ◌+◌, ◌≤◌, ◌<◌, length}
use Rattle.sequence.specs.Operators.{Unary, Binary, unary_code, binary_code}
use Rattle.rules.specs.Refusals.{Row}
use Rattle.formula.specs.Formula.{Leaf}
use Rattle.formula.specs.Nodes.{Node, node_at, leaf_code}
use Rattle.rules.specs.Limits.{most_size, most_room}

-- ---- what a code is of

abbrev pub IsUnary : ℕ → Type 0
IsUnary code = (op : Unary) × (unary_code op ≡ code)

abbrev pub IsBinary : ℕ → Type 0
IsBinary code = (op : Binary) × (binary_code op ≡ code)

abbrev pub IsLeaf : ℕ → Type 0
IsLeaf code = (c : Leaf) × (leaf_code c ≡ code)

abbrev pub Known : ℕ → Type 0
Known code = IsUnary code ⊎ IsBinary code ⊎ IsLeaf code

-- "16 proposition"
abbrev pub proposition_code : ℕ
proposition_code = 16

-- ---- the rule

-- over the number m of propositions (print: of names) and the listed nodes
module _ (m : ℕ) (k : List Node) where
  -- what can be wrong with a node whose children have to stand at places below `below`
  pub data Fault (below : ℕ) (n : Node) : Type 0 where
    -- "a child's place not below its node's place (for the root: not below the count)"
    unary_place : IsUnary n.code → below ≤ n.left → Fault below n
    left_place : IsBinary n.code → below ≤ n.left → Fault below n
    right_place : IsBinary n.code → below ≤ n.right → Fault below n
    -- "an unknown code"
    unknown_code : (Known n.code → ⊥) → Fault below n
    -- "a proposition not below m (print: not below the count of names)"
    no_proposition : n.code ≡ proposition_code → m ≤ n.left → Fault below n
    -- "an unused field not 0": a constant has no use for the left one, and only a binary operator has for the right one
    left_unused : IsLeaf n.code → (n.code ≡ proposition_code → ⊥) → (n.left ≡ 0 → ⊥) → Fault below n
    right_unused : (IsBinary n.code → ⊥) → (n.right ≡ 0 → ⊥) → Fault below n
    -- "a size that isn't 1 plus the children's, or above 31"
    leaf_size : IsLeaf n.code → (n.size ≡ 1 → ⊥) → Fault below n
    unary_size : IsUnary n.code → (n.size ≡ 1 + (node_at k n.left).size → ⊥) → Fault below n
    binary_size : IsBinary n.code → (n.size ≡ 1 + (node_at k n.left).size + (node_at k n.right).size → ⊥) → Fault below n
    too_large : most_size < n.size → Fault below n

  -- "Number 9, at any listed node or the root: more than 4,096 nodes, ..": reachable from the root or not
  pub data Broken (root : Node) : Type 0 where
    too_many : most_room < length k → Broken root
    listed : (p : ℕ) → p < length k → Fault p (node_at k p) → Broken root
    rooted : Fault (length k) root → Broken root

  -- "9: node list broken"
  abbrev pub broken_list : Node → Row
  broken_list root = record { number = 9; given = Broken root }
