-- `fill` meets its contract: the rows filled so far are what the calls answered.
use Rattle.loops.specs.Loops.{Filled}
use Rattle.loops.proofs.fill.Given as goal

abbrev pub invariant-loop-j : goal.invariant-loop-j
invariant-loop-j g l = Filled l.j l.fn.rows (goal.F-post g l.word) l.rows
