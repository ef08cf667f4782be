-- The nodes of a tree in the order in which they are written.
-- Assumes nothing.
use Rattle.std.specs.Prelude.{List, [], ◌∷◌, ◌++◌, ℕ, ◌+◌, ◌-◌}
use Rattle.formula.specs.Formula.{Tree, leaf, unary, binary, size}
use Rattle.formula.specs.Nodes.{Node, Codes}
use Rattle.formula.specs.Kinds.{node}

module _ {L U B : Type 0} (C : Codes L U B) where
  -- "unused fields are 0, and a proposition's number is its left field"
  abbrev pub leaf_node : L → Node
  leaf_node c = node (C.of_leaf c) (C.leaf_field c) 0 1

  -- "its nodes written left child, right child, parent, nothing shared": from a place on; a child's root is the last of its nodes
  unfoldable pub nodes_of : ℕ → Tree L U B → List Node
  nodes_of p (leaf c) = leaf_node c ∷ []
  nodes_of p (unary op t) = nodes_of p t ++ (node (C.of_unary op) (p + size t - 1) 0 (1 + size t) ∷ [])
  nodes_of p (binary op l r) =
      nodes_of p l ++ (nodes_of (p + size l) r ++ (node (C.of_binary op) (p + size l - 1) (p + size l + size r - 1) (1 + size l + size r) ∷ []))
