-- Formulas as nodes over a list of nodes.
-- Assumes nothing.
use Rattle.std.specs.Prelude.{◌≡◌, true, false, List, ℕ, ◌<◌, length, get_or}
use Rattle.sequence.specs.Operators.{Unary, Binary, unary_code, binary_code}
use Rattle.formula.specs.Formula.{Tree, leaf, unary, binary, size, Leaf, proposition, constant}

-- "a lent list of nodes: operator code, left place, right place, size"
pub record Node : Type 0 where
  pub code : ℕ
  pub left : ℕ
  pub right : ℕ
  pub size : ℕ

-- the node at a place of the list
abbrev pub node_at : List Node → ℕ → Node
node_at k p = get_or k p (record { code = 0; left = 0; right = 0; size = 0 })

-- the codes of leaves and operators; what a leaf has in its left field
pub record Codes (L U B : Type 0) : Type 0 where
  pub of_leaf : L → ℕ
  pub leaf_field : L → ℕ
  pub of_unary : U → ℕ
  pub of_binary : B → ℕ

-- the node n over the list k is the formula t: "unused fields are 0, and a proposition's number is its left field", the children stand at
-- the places of the list that the fields name, and the size is the formula's
abbrev pub Spells : {L U B : Type 0} → Codes L U B → List Node → Node → Tree L U B → Type 0
Spells C k n (leaf c) = (n.code ≡ C.of_leaf c) × (n.left ≡ C.leaf_field c) × (n.right ≡ 0) × (n.size ≡ 1)
Spells C k n (unary op t) =
    (n.code ≡ C.of_unary op) × (n.right ≡ 0) × (n.size ≡ size (unary op t))
    × (n.left < length k) × Spells C k (node_at k n.left) t
Spells C k n (binary op l r) =
    (n.code ≡ C.of_binary op) × (n.size ≡ size (binary op l r))
    × (n.left < length k) × Spells C k (node_at k n.left) l
    × (n.right < length k) × Spells C k (node_at k n.right) r

-- "16 proposition, 17 false, 18 true"
abbrev pub leaf_code : Leaf → ℕ
leaf_code (proposition p) = 16
leaf_code (constant false) = 17
leaf_code (constant true) = 18

abbrev pub leaf_number : Leaf → ℕ
leaf_number (proposition p) = p
leaf_number (constant b) = 0

abbrev pub codes : Codes Leaf Unary Binary
codes = record { of_leaf = leaf_code; leaf_field = leaf_number; of_unary = unary_code; of_binary = binary_code }
