-- `run_end` meets its contract: byte by byte.
use Rattle.typed.proofs.Unknowns.{Running}
use Rattle.typed.proofs.unknown.run_end.Given as goal

abbrev pub invariant-loop-i : goal.invariant-loop-i
invariant-loop-i l = Running l.text l.start l.i
