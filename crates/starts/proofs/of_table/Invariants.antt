-- `of_table` meets its contract: what is passed is summed.
use lib.ListN.{take}
use Rattle.starts.proofs.Counting.{Summed}
use Rattle.starts.proofs.of_table.Given as goal

abbrev pub invariant-loop-start : goal.invariant-loop-start
invariant-loop-start l = Summed (take l.there l.sizes) l.start-index l.below l.start-items
