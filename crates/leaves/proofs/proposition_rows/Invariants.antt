-- `proposition_rows` meets its contract: the rows filled so far are the proposition's words.
use Rattle.loops.specs.Loops.{Filled}
use Rattle.leaves.specs.Leaves.{PropositionRow}
use Rattle.leaves.proofs.proposition_rows.Given as goal

abbrev pub invariant-loop-j : goal.invariant-loop-j
invariant-loop-j l = Filled l.j l.fn.rows (PropositionRow l.m l.words l.p) l.rows
