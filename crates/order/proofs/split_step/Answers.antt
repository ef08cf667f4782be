-- `split_step` meets its contract.
use Rattle.order.proofs.Sizes.{in-later}
use Rattle.order.proofs.split_step.Goals as goal

pub returns-then-at-eq0 : goal.returns-then-at-eq0
returns-then-at-eq0 c = rw c.if-at-eq0.true (rw c.if-at-eq0.true at c.part_step.ensures)

pub returns : goal.returns
returns c = in-later _ _ _ _ _ c.if-at-eq0.false c.part_step-2.ensures
