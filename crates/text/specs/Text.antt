-- The text of a formula, byte by byte.
-- Assumes nothing.
use Rattle.std.specs.Prelude.{true, false, List, [], ◌∷◌, ◌++◌, ℕ, get_or}
use Rattle.sequence.specs.Operators.{unary_token, binary_token}
use Rattle.formula.specs.Formula.{leaf, unary, binary, Leaf, proposition, constant, Formula}

abbrev pub space : ℕ
space = 32

-- `(` and `)`
abbrev pub bracketed : List ℕ → List ℕ
bracketed text = 40 ∷ (text ++ (41 ∷ []))

-- "leaves by name, `true`, `false`"
abbrev pub leaf_text : List (List ℕ) → Leaf → List ℕ
leaf_text names (proposition p) = get_or names p []
leaf_text names (constant true) = 116 ∷ 114 ∷ 117 ∷ 101 ∷ []
leaf_text names (constant false) = 102 ∷ 97 ∷ 108 ∷ 115 ∷ 101 ∷ []

-- "`op (child)` and `(left) op (right)`"
abbrev pub text : List (List ℕ) → Formula → List ℕ
text names (leaf c) = leaf_text names c
text names (unary op t) = unary_token op ++ (space ∷ bracketed (text names t))
text names (binary op l r) = bracketed (text names l) ++ (space ∷ (binary_token op ++ (space ∷ bracketed (text names r))))

-- "391 bytes suffice for any formula."
abbrev pub most_text : ℕ
most_text = 391
