-- `names_from` meets its contract: a loop over names that remembers those before.
use Rattle.names.proofs.Turns.{Names}
use Rattle.names.proofs.names_from.Given as goal

abbrev pub invariant-loop-i : goal.invariant-loop-i
invariant-loop-i l = Names l.file l.count l.i l.p
