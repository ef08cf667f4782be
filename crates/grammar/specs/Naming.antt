-- Formulas and what is typed for them: a proposition stands for its name, and a name for the proposition that has it.
-- Assumes nothing.
use Rattle.std.specs.Prelude.{List, [], ℕ, get_or}
use Rattle.formula.specs.Formula.{leaf, unary, binary, Leaf, proposition, Formula}
use Rattle.formula.specs.Formula as formula
use Rattle.grammar.specs.Name.{Name}
use Rattle.grammar.specs.Token.{Atom, name, constant, Typed}

abbrev pub atom_of : List (List ℕ) → Leaf → Atom
atom_of names (proposition p) = name (get_or names p [])
atom_of names (formula.constant b) = constant b

-- the formula as it is typed with these names
unfoldable pub typed : List (List ℕ) → Formula → Typed
typed names (leaf c) = leaf (atom_of names c)
typed names (unary u t) = unary u (typed names t)
typed names (binary o l r) = binary o (typed names l) (typed names r)

-- its propositions have names
abbrev pub GoodLeaf : List (List ℕ) → Leaf → Type 0
GoodLeaf names (proposition p) = Name (get_or names p [])
GoodLeaf names (formula.constant b) = Unit

unfoldable pub AllNamed : List (List ℕ) → Formula → Type 0
AllNamed names (leaf c) = GoodLeaf names c
AllNamed names (unary u t) = AllNamed names t
AllNamed names (binary o l r) = AllNamed names l × AllNamed names r
