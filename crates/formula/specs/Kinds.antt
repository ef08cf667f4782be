-- Node lists as they are lent: four lists of numbers, and a root node.
-- Assumes nothing.
use Rattle.std.specs.Prelude.{List, map, ℕ, min, length, get_or}
use Rattle.formula.specs.Nodes as walk
use Rattle.rules.specs.Lists.{count}
use Rattle.formula.specs.declared.kinds.Node.{Node}

-- "operator code, left place, right place, size"
abbrev pub node : ℕ → ℕ → ℕ → ℕ → walk.Node
node code left right size = record { code = code; left = left; right = right; size = size }

-- a node whose places are of their kind, as plain numbers
abbrev pub node_of : Node → walk.Node
node_of n = node n.code n.left.0 n.right.0 n.size

-- no node: what stands past the end of a list of nodes, and the root while there is none
abbrev pub no_node : Node
no_node = record { code = 0; left = record { 0 = 0 }; right = record { 0 = 0 }; size = 0 }

-- "(the whole lent slice, for print too)": where the four lists differ in length, their count is the shortest one's
abbrev pub count_of : List ℕ → List ℕ → List ℕ → List ℕ → ℕ
count_of codes lefts rights sizes = min (length codes) (min (length lefts) (min (length rights) (length sizes)))

-- "a lent list of nodes": the node at a place has its four numbers at that place of the four lists
unfoldable pub nodes : List ℕ → List ℕ → List ℕ → List ℕ → List walk.Node
nodes codes lefts rights sizes =
    map (λ p. node (get_or codes p 0) (get_or lefts p 0) (get_or rights p 0) (get_or sizes p 0)) (count 0 (count_of codes lefts rights sizes))
