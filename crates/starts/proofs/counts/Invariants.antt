-- `counts` meets its contract: those passed are counted.
use lib.ListN.{take}
use Rattle.starts.specs.Inner.{SizesCounted}
use Rattle.starts.proofs.counts.Given as goal

abbrev pub invariant-loop-size : goal.invariant-loop-size
invariant-loop-size l = SizesCounted (take l.size-index l.sizes) l.counts
