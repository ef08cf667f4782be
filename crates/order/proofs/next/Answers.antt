-- `next` meets its contract.
use native.Mathlib.Omega.{arith}
use Rattle.order.proofs.Sizes.{steps-none, steps-beyond, steps-leaves, steps-parts}
use Rattle.order.proofs.next.Goals as goal

pub returns-then-s-eq0 : goal.returns-then-s-eq0
returns-then-s-eq0 c = steps-none _ _ c.if-s-eq0.true

pub returns-then-starts-s : goal.returns-then-starts-s
returns-then-starts-s c = steps-beyond _ _ c.if-starts-s.true

pub returns-then-s-eq1 : goal.returns-then-s-eq1
returns-then-s-eq1 c = steps-leaves _ _ (omega arith) c.if-s-eq1.true c.leaf_step.ensures

pub returns : goal.returns
returns c = steps-parts _ _ (omega arith) (omega arith) (c.splits_step.ensures.takes _ _)
