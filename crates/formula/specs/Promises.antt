-- What is promised of node lists and of the empty trace: the statements of theorems, each proved under its name in proofs/.
-- Assumes nothing.
use Rattle.std.specs.Prelude.{◌≡◌, List, ◌↔◌}
use Rattle.formula.specs.Formula.{Formula, Trace, Accepts}
use Rattle.formula.specs.Nodes.{Node, Spells, codes}
use Rattle.formula.specs.Empty.{OnEmpty, Empty}

-- "The answer's formula is its root node over that list": there is no other (one-formula, in proofs/Spelled)
abbrev pub OneFormula : Type 0
OneFormula = (k : List Node) (n : Node) (t u : Formula) → Spells codes k n t → Spells codes k n u → t ≡ u

-- E4's table of the empty trace is the reading (empty-trace, in proofs/Empty)
abbrev pub EmptyTrace : Type 1
EmptyTrace = (τ : Trace) → Empty τ → (t : Formula) → Accepts τ t ↔ OnEmpty t
