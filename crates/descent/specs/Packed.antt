-- The nodes of a typed text, each packed into one number of a scratch, and a name's number in its leaf's node.
-- Assumes nothing.
use Rattle.std.specs.Prelude.{◌≡◌, true, false, List, map, Option, unwrap_or, ℕ, ◌+◌, ◌*◌}
use Rattle.std.proofs.lemmas.List.Edits.{sets}
use Rattle.sequence.specs.Operators.{Unary, Binary, unary_code, binary_code}
use Rattle.formula.specs.Nodes.{Node, Codes}
use Rattle.names.specs.Names.{names_in}
use Rattle.names.specs.Lookup.{find_from}
use Rattle.grammar.specs.Nodes.{nodes_of}
use Rattle.grammar.specs.Token.{Typed, Atom, name, constant}

-- ---- names

-- the number of a name that was found; for none, 0
abbrev pub name_number : Option ℕ → ℕ
name_number found = unwrap_or found 0

-- ---- the nodes of what is typed

abbrev pub atom_code : Atom → ℕ
atom_code (name w) = 16
atom_code (constant false) = 17
atom_code (constant true) = 18

abbrev pub atom_field : List (List ℕ) → Atom → ℕ
atom_field names (name w) = name_number (find_from 0 w names)
atom_field names (constant b) = 0

abbrev pub codes_by : List (List ℕ) → Codes Atom Unary Binary
codes_by names = record { of_leaf = atom_code; leaf_field = atom_field names; of_unary = unary_code; of_binary = binary_code }

-- ---- a node as one number

unfoldable pub pack : Node → ℕ
pack n = n.code + 256 * n.left + 16777216 * n.right + 1099511627776 * n.size

abbrev pub packs : List Node → List ℕ
packs ns = map pack ns

-- a field that packs
abbrev pub most_field : ℕ
most_field = 65536

-- ---- the scratch

-- the tree's nodes stand in the scratch from a place on
abbrev pub NodesWritten : List ℕ → ℕ → Typed → List ℕ → List ℕ → Type 0
NodesWritten file place t old new = new ≡ sets old place (packs (nodes_of (codes_by (names_in file)) place t))
