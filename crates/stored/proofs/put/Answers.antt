-- `put` meets its contract: each piece is written behind those before it.
use Rattle.std.proofs.Common.{rules}
use Rattle.stored.proofs.Fronts.{longer}
use Rattle.stored.proofs.put.Goals as goal

pub loop-at-preserved : goal.loop-at-preserved
loop-at-preserved g c =
    let so-far = c.loop-at.invariant in
    let piece = c.in_ok-n.ensures in
    (search rules, longer _ _ _ c.loop-at.at c.in_ok-n.n _ so-far.1 piece.bytes)
