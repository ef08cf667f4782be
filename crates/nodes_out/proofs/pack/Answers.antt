-- The goals of `pack` that the search leaves.
use mathlib.Core.Path.{refl}
use native.Mathlib.Omega.{arith}
use borrow.Author.Rules.{rules}
use Rattle.nodes_in.proofs.Fields.{filled_none, packed_more, filled-to}
use Rattle.nodes_out.proofs.pack.Goals as goal

pub loop-i-init : goal.loop-i-init
loop-i-init c = (refl, filled_none _ (search rules) (search rules) (search rules) (search rules))

pub loop-i-preserved : goal.loop-i-preserved
loop-i-preserved c = (search rules, packed_more _ _ (omega arith) c.loop-i.invariant.1)

pub returns : goal.returns
returns c = filled-to _ _ _ (omega arith) c.loop-i.invariant.1
