-- `masks_of` meets its contract: one mask more is filled.
use native.Mathlib.Omega.{arith}
use Rattle.loops.proofs.Filling.{filled_more}
use Rattle.masks.proofs.masks_of.Goals as goal

pub loop-j-preserved : goal.loop-j-preserved
loop-j-preserved c = filled_more (omega arith) c.loop-j.invariant c.mask.ensures
