-- `part_of` meets its contract.
use native.Mathlib.Omega.{arith}
use Rattle.order.proofs.Sizes.{part-first, part-later}
use Rattle.order.proofs.part_of.Goals as goal

pub returns-then-i-eq0 : goal.returns-then-i-eq0
returns-then-i-eq0 c = part-first c.args.starts.now c.args.s c.args.i c.if-i-eq0.true (omega arith)

pub returns : goal.returns
returns c =
    let a = c.args in
    part-later a.starts.now a.s a.i (omega arith) (omega arith)
