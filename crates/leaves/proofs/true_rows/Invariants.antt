-- `true_rows` meets its contract: the rows filled so far have every place.
use Rattle.loops.specs.Loops.{Filled}
use Rattle.leaves.specs.Leaves.{TrueRow}
use Rattle.leaves.proofs.true_rows.Given as goal

abbrev pub invariant-loop-j : goal.invariant-loop-j
invariant-loop-j l = Filled l.j l.fn.rows (TrueRow l.masks) l.rows
