-- How private functions speak of the text of a node and of what they wrote. No public contract cites this file, so nothing here has to be
-- believed.
-- Assumes nothing.
use Rattle.std.specs.Prelude.{List, [], ◌∷◌, ◌++◌, ℕ, length, take}
use Rattle.operators.specs.declared.Operator.{Operator}
use Rattle.operators.specs.Table.{Listed}
use Rattle.formula.specs.Formula.{Formula}
use Rattle.formula.specs.Nodes.{Node, node_at, Spells, codes}
use Rattle.formula.specs.Rule.{IsUnary, IsBinary, Broken}
use Rattle.names.specs.Names.{names_in, GoodNames}
use Rattle.writing.specs.Writing.{Wrote}
use Rattle.formula.specs.Faultless.{Fits, AllFit}
use Rattle.text.specs.Text.{space, bracketed, text}

-- the names and the list have passed
pub record Passed (file : List ℕ) (k : List Node) (root : Node) : Type 0 where
  pub good : GoodNames file
  pub whole : Broken (length (names_in file)) k root → ⊥

-- and so a node over the list can be printed
pub record Printable (file : List ℕ) (k : List Node) (node : Node) : Type 0 where
  pub good : GoodNames file
  pub all : AllFit (length (names_in file)) k (length k)
  pub fits : Fits (length (names_in file)) k (length k) node

-- the text of whatever formula the node spells is written
abbrev pub TextWritten : List ℕ → List Node → Node → List ℕ → ℕ → List ℕ → ℕ → Type 0
TextWritten file k node old at new r = (t : Formula) → Spells codes k node t → Wrote old at (text (names_in file) t) new r

-- the same of the node at a place, whose text stands in brackets
abbrev pub PrintableAt : List ℕ → List Node → ℕ → Type 0
PrintableAt file k p = Printable file k (node_at k p)

abbrev pub WrittenAt : List ℕ → List Node → ℕ → List ℕ → ℕ → List ℕ → ℕ → Type 0
WrittenAt file k p old at new r = (t : Formula) → Spells codes k (node_at k p) t → Wrote old at (bracketed (text (names_in file) t)) new r

-- and of a leaf, which is a leaf over any list
abbrev pub LeafPrintable : List ℕ → Node → Type 0
LeafPrintable file node = (k : List Node) × Printable file k node × (IsUnary node.code → ⊥) × (IsBinary node.code → ⊥)

abbrev pub LeafWritten : List ℕ → Node → List ℕ → ℕ → List ℕ → ℕ → Type 0
LeafWritten file node old at new r = (k : List Node) → TextWritten file k node old at new r

-- an operator's token and a space, by its row of the table
abbrev pub spaced : Operator → List ℕ
spaced o = take o.bytes o.token ++ (space ∷ [])

abbrev pub TokenWritten : ℕ → List ℕ → ℕ → List ℕ → ℕ → Type 0
TokenWritten code old at new r = (o : Operator) × Listed code o × Wrote old at (spaced o) new r

-- and a space before it too
abbrev pub BetweenWritten : ℕ → List ℕ → ℕ → List ℕ → ℕ → Type 0
BetweenWritten code old at new r = (o : Operator) × Listed code o × Wrote old at (space ∷ spaced o) new r
