-- `eval` and `eval_child` meet their contracts, falling by place: a child's place is below its node's, and the child is read before it is evaluated.
use Rattle.formula.specs.Kinds.{node_of}
use Rattle.verdict.proofs.Places.{reach}
use Prim.Native.Nat.{◌+◌, ◌*◌}
use Rattle.verdict.proofs.evaluate.+eval_eval_child.Given as goal

abbrev pub decreases-eval : goal.decreases-eval
decreases-eval l = 2 * reach (node_of l.node)

abbrev pub decreases-eval_child : goal.decreases-eval_child
decreases-eval_child l = 2 * l.at.0 + 1
