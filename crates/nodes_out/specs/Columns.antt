-- A lent list of nodes as the slices of numbers of the search and of the formula reader.
-- Assumes nothing.
use Rattle.std.specs.Prelude.{List, ℕ}
use Rattle.formula.specs.declared.kinds.Node.{Node}
use Rattle.table.specs.Slices.{Cols, cols}
use Rattle.reader.specs.Parsing as reader
use Rattle.reader.specs.Parsing.{Columns}
use Rattle.nodes_in.specs.Lists.{codes_of, lefts_of, rights_of, sizes_of}

-- a search's lent slices: those of a list of nodes, and the matrices
abbrev pub node_cols : List Node → List ℕ → Cols
node_cols ns matrices = cols (codes_of ns) (lefts_of ns) (rights_of ns) (sizes_of ns) matrices

-- "operator code, left place, right place, size": so the reader's contract `Parses` says what it leaves in a list of nodes
abbrev pub fields : List Node → Columns
fields ns = reader.columns (codes_of ns) (lefts_of ns) (rights_of ns) (sizes_of ns)
