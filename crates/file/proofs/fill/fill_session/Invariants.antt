-- `fill_session` meets its contract: a loop of stores.
use Prim.Native.Nat.{◌+◌, ◌*◌}
use Rattle.file.proofs.Filling.{Words}
use Rattle.file.proofs.fill.fill_session.Given as goal

abbrev pub invariant-loop-i : goal.invariant-loop-i
invariant-loop-i l = Words l.initial.to l.k l.file l.at l.m l.to l.i (l.at + 8 * l.i)
