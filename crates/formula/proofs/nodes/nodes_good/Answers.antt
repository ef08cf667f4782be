-- The goals of `nodes_good` that the search leaves.
use native.Mathlib.Omega.{arith}
use Rattle.formula.proofs.Tests.{fit-more, fault-at}
use Rattle.formula.proofs.nodes.nodes_good.Goals as goal

pub loop-i-preserved : goal.loop-i-preserved
loop-i-preserved c = fit-more _ _ c.loop-i.invariant c.node_at-node.ensures c.node_good.ensures c.if-not-node_good.false

pub returns-then-not-node_good : goal.returns-then-not-node_good
returns-then-not-node_good c = (c.loop-i.i, omega arith, fault-at _ _ c.node_at-node.ensures c.node_good.ensures c.if-not-node_good.true)

pub returns : goal.returns
returns c = λ p h. c.loop-i.invariant p (omega arith)
