-- `masks_of` meets its contract: the masks filled so far are those of their sessions.
use Rattle.masks.specs.Masks.{MaskOf}
use Rattle.loops.specs.Loops.{Filled}
use Rattle.masks.proofs.masks_of.Given as goal

abbrev pub invariant-loop-j : goal.invariant-loop-j
invariant-loop-j l = Filled l.j l.fn.masks (MaskOf l.lengths) l.masks
