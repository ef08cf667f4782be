-- What a walk over an input keeps, and the walk over an input cut after so many candidates.
-- Assumes nothing.
use Rattle.std.specs.Prelude.{List, map, ℕ}
use Rattle.formula.specs.Nodes.{Node}
use Rattle.walk.specs.Walk.{Candidate}
use Rattle.walk.specs.Input.{Input, offer}
use Rattle.walk.specs.Cut.{Cut, start, turn}

-- "The kept formulas are a lent list of nodes ..", "The matrices lie in a lent slice of words, r per place"
abbrev pub Table : Type 0
Table = List (Candidate (List ℕ))

abbrev pub table_nodes : Table → List Node
table_nodes k = map (λ c. c.node) k

-- the walk of an input before its first candidate, and so many candidates later
abbrev pub begun : Input → Cut (List ℕ)
begun i = start (offer i) i.room i.bound

abbrev pub go_on : Input → ℕ → Cut (List ℕ) → Cut (List ℕ)
go_on i n c = turn (offer i) i.room i.bound n c
