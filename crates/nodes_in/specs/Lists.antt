-- A lent list of nodes as the core's lists of numbers.
-- Assumes nothing.
use Rattle.std.specs.Prelude.{List, map, ℕ}
use Rattle.formula.specs.Nodes as walk
use Rattle.formula.specs.declared.kinds.Node.{Node}
use Rattle.formula.specs.Kinds.{node_of}

-- "a lent list of nodes", each as plain numbers
abbrev pub plain : List Node → List walk.Node
plain ns = map node_of ns

-- "operator code, left place, right place, size": each in a list of its own
abbrev pub codes_of : List Node → List ℕ
codes_of ns = map (λ n. n.code) ns

abbrev pub lefts_of : List Node → List ℕ
lefts_of ns = map (λ n. n.left.0) ns

abbrev pub rights_of : List Node → List ℕ
rights_of ns = map (λ n. n.right.0) ns

abbrev pub sizes_of : List Node → List ℕ
sizes_of ns = map (λ n. n.size) ns
