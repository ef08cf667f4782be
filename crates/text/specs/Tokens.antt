-- The tokens of a formula's text and the names that stand in it: what document 02's E1 keeps apart.
-- Assumes nothing.
use Rattle.std.specs.Prelude.{◌≡◌, ◌⊎◌, Bool, true, ℕ, ◌≤◌, ◌<◌, length, get_or}
use mathlib.Core.List.{List, [], ◌∷◌, ◌++◌}
use Rattle.sequence.specs.Operators.{Unary, Binary, unary_token, binary_token}
use Rattle.rules.specs.Lists.{Each}
use Rattle.formula.specs.Formula.{leaf, unary, binary, proposition, constant, Formula}
use Rattle.names.specs.Names.{fits_name}
use Rattle.text.specs.Text.{leaf_text}

-- an operator's token, or `true` or `false`
abbrev pub IsToken : List ℕ → Type 0
IsToken w = ((op : Unary) × (unary_token op ≡ w)) ⊎ ((op : Binary) × (binary_token op ≡ w)) ⊎ ((b : Bool) × (leaf_text [] (constant b) ≡ w))

-- bytes that a name could have: "letters, digits or `_`, a letter first"
abbrev pub IsWord : List ℕ → Type 0
IsWord w = (1 ≤ length w) × Each (λ seen b. fits_name seen b ≡ true) [] w

-- the names that stand in the text of a formula, in order
abbrev pub names_of : List (List ℕ) → Formula → List (List ℕ)
names_of names (leaf (proposition p)) = get_or names p [] ∷ []
names_of names (leaf (constant b)) = []
names_of names (unary op t) = names_of names t
names_of names (binary op l r) = names_of names l ++ names_of names r

-- every proposition of the formula has a name
abbrev pub Named : ℕ → Formula → Type 0
Named m (leaf (proposition p)) = p < m
Named m (leaf (constant b)) = Unit {0}
Named m (unary op t) = Named m t
Named m (binary op l r) = Named m l × Named m r
