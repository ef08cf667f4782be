-- `find` meets its contract: the names up to the j-th are not the one looked for.
use lib.ListN.{get_or}
use Rattle.names.proofs.Lookups.{Missed}
use Rattle.names.proofs.lookup.find.Given as goal

abbrev pub invariant-loop-j : goal.invariant-loop-j
invariant-loop-j l = Missed l.section l.word (get_or l.section 0 0) l.j
