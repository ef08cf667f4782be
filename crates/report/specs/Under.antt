-- The nodes under the root, by their places.
-- Assumes nothing.
use Rattle.std.specs.Prelude.{◌≡◌, ◌⊎◌, List, ℕ, zero, suc}
use Rattle.formula.specs.Nodes.{Node, node_at}
use Rattle.formula.specs.Rule.{IsUnary, IsBinary}

-- the place of a node's child: a unary operator's left field, and both fields of a binary one
abbrev pub Child : Node → ℕ → Type 0
Child n p = (IsUnary n.code × (n.left ≡ p)) ⊎ (IsBinary n.code × ((n.left ≡ p) ⊎ (n.right ≡ p)))

-- one of the top places, or a child of a node at a place so reached, d steps further down
abbrev pub Down : List Node → (ℕ → Type 0) → ℕ → ℕ → Type 0
Down k top zero p = top p
Down k top (suc d) p = (q : ℕ) × Down k top d q × Child (node_at k q) p

-- "node under the root": the root's children are the top
abbrev pub Under : List Node → Node → ℕ → Type 0
Under k root p = (d : ℕ) × Down k (Child root) d p
