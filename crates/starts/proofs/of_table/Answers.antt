-- The goals of `of_table` that the search leaves.
use native.Mathlib.Omega.{arith}
use lib.ListN.{length-take}
use Rattle.starts.proofs.Counting.{summed-none, summed-few, summed-more, summed-all}
use Rattle.starts.proofs.of_table.Goals as goal

pub loop-start-init : goal.loop-start-init
loop-start-init c = summed-none c.counts-starts.ensures

pub overflow_add-below : goal.overflow_add-below
overflow_add-below c =
    omega (
      arith,
      summed-few c.loop-start.invariant (omega arith),
      length-take c.min-there.result c.args.sizes.now,
    )

pub loop-start-preserved : goal.loop-start-preserved
loop-start-preserved c = summed-more c.loop-start.invariant (omega arith)

pub returns : goal.returns
returns c = summed-all _ _ (rw c.min-there.ensures at c.loop-start.invariant) (omega arith)
