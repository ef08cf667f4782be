-- `write` and `put_child` meet their contracts, by the node's size: a child is smaller, and is read before it is written.
use Rattle.formula.specs.Nodes.{node_at}
use Rattle.formula.specs.Kinds.{nodes}
use Prim.Native.Nat.{◌+◌, ◌*◌}
use Rattle.text.proofs.text.+put_child_write.Given as goal

abbrev pub decreases-put_child : goal.decreases-put_child
decreases-put_child l = 2 * (node_at (nodes l.codes.now l.lefts.now l.rights.now l.sizes.now) l.child.0).size + 1

abbrev pub decreases-write : goal.decreases-write
decreases-write l = 2 * l.node.size
