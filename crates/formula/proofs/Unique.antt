-- Uniqueness: any two results that a public operation's contract allows for the same input are equal.
-- For `Proposition::from_left`, `Proposition::to_left` and `nodes::count` the contract is the number itself; for `nodes::check` it is `decided-unique`.
-- Assumes nothing.
use mathlib.Core.Path.{◌≡◌, ap}
use Prim.Native.Nat.{ℕ}
use Rattle.rules.specs.declared.kinds.Place.{Place}
use Rattle.formula.specs.Nodes.{Node}
use Rattle.formula.specs.declared.kinds.Node as kinds
use Rattle.formula.specs.Kinds.{node_of}

place : ℕ → Place
place n = record { 0 = n }

kinds_of : Node → kinds.Node
kinds_of n = record { code = n.code; left = place n.left; right = place n.right; size = n.size }

-- a node whose places are of their kind is determined by its numbers
pub node-unique : (a b : kinds.Node) → node_of a ≡ node_of b → a ≡ b
unfolding kinds_of place
node-unique a b e = ap kinds_of e
