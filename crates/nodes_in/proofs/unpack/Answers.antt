-- The goals of `unpack` that the search leaves.
use native.Mathlib.Omega.{arith}
use Rattle.nodes_in.proofs.Fields.{filled_none, filled_more, filled-to}
use Rattle.nodes_in.proofs.unpack.Goals as goal

pub loop-i-init : goal.loop-i-init
loop-i-init c = filled_none _ c.requires.1 c.requires.2 c.requires.3 c.requires.4

pub loop-i-preserved : goal.loop-i-preserved
loop-i-preserved c = filled_more _ _ (omega arith) c.loop-i.invariant

pub returns : goal.returns
returns c = filled-to _ _ _ (omega arith) c.loop-i.invariant
