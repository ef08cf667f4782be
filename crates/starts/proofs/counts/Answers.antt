-- The goals of `counts` that the search leaves.
use native.Mathlib.Omega.{arith}
use lib.ListN.{get_or}
use Rattle.starts.proofs.Counting.{counted_none, counted-few, counted-more, counted-out}
use Rattle.starts.proofs.counts.Goals as goal
use Rattle.starts.proofs.counts.Goals.{then-t, else-t}

pub loop-size-init : goal.loop-size-init
loop-size-init c = counted_none

pub overflow_add-counts-then-t : goal.overflow_add-counts-then-t
overflow_add-counts-then-t c = omega (arith, counted-few _ _ c.loop-size.invariant (omega arith) (get_or c.args.sizes.now c.loop-size.size-index 0) (omega arith))

pub loop-size-preserved : goal.loop-size-preserved
loop-size-preserved c = elim c.if-t.branch [
  | then-t w ↦ rw w.counts-is (counted-more _ _ c.loop-size.invariant (omega arith) w.if-t.true)
  | else-t w ↦ rw w.counts-is (counted-out _ _ c.loop-size.invariant (omega arith) w.if-t.false)
]
