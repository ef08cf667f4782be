-- What follows of the contracts of print and of parse together. Proved in proofs/Promises: round-trip, read-prints.
-- Assumes nothing.
use Rattle.std.specs.Prelude.{◌≡◌, List, [], ◌∷◌, ℕ, ◌-◌, ◌≤◌, length, take}
use Rattle.rules.specs.Answers.{Said}
use Rattle.names.specs.Names.{names_in}
use Rattle.formula.specs.Formula.{size, Formula}
use Rattle.formula.specs.Nodes.{Node, node_at, Spells, codes}
use Rattle.formula.specs.Kinds.{nodes}
use Rattle.formula.specs.Rule.{Broken}
use Rattle.text.specs.Text.{most_text}
use Rattle.text.specs.Print.{Prints}
use Rattle.reader.specs.Parsing.{Columns, room_of, Parses}

-- ---- what was read

-- the nodes: the first n of each lent slice
abbrev pub nodes_in : Columns → ℕ → List Node
nodes_in c n = nodes (take n c.codes) (take n c.lefts) (take n c.rights) (take n c.sizes)

-- "left child, right child, parent": the root is the last of them
abbrev pub root_in : Columns → ℕ → Node
root_in c n = node_at (nodes_in c n) (n - 1)

-- ---- "What the printer writes, read back with the same names, prints the same"

-- the n bytes of `out` were printed of the root over k; the answer p and the slices `new` are what reading them gave
pub record ReadBack (file : List ℕ) (k : List Node) (root : Node) (n : ℕ) (out : List ℕ) (new : Columns) (p : Said) : Type 0 where
  -- the formula that was printed
  pub formula : Formula
  pub printed : Spells codes k root formula
  -- it is read without a refusal, node by node
  pub number : p.number ≡ 0
  pub values : p.values ≡ size formula ∷ []
  -- the nodes read spell the same formula
  pub read : Spells codes (nodes_in new (size formula)) (root_in new (size formula)) formula
  -- and print the same bytes, in any room that has as many
  pub again : (room' out' : List ℕ) (s' : Said) → n ≤ length room' → Prints file (nodes_in new (size formula)) (root_in new (size formula)) room' s' out'
      → (s'.number ≡ 0) × (s'.values ≡ n ∷ []) × (take n out' ≡ take n out)

-- for every names section, node list and root that print takes, and slices with room for the root's size
abbrev pub RoundTrip : Type 0
RoundTrip =
    (file : List ℕ) (k : List Node) (root : Node) (room out : List ℕ) (s : Said) (n : ℕ) → Prints file k root room s out → s.number ≡ 0 → s.values ≡ n ∷ []
    → (old new : Columns) (p : Said) → root.size ≤ room_of old → Parses file (take n out) old new p → ReadBack file k root n out new p

-- ---- what is read passes number 9, with as many propositions as there are names, and prints

abbrev pub ReadPrints : Type 0
ReadPrints =
    (file text : List ℕ) (old new : Columns) (p : Said) (n : ℕ) → Parses file text old new p → p.number ≡ 0 → p.values ≡ n ∷ []
    → (Broken (length (names_in file)) (nodes_in new n) (root_in new n) → ⊥)
    × ((room out : List ℕ) (s : Said) → most_text ≤ length room → Prints file (nodes_in new n) (root_in new n) room s out → s.number ≡ 0)
