-- `fill_bytes` meets its contract: a loop of stores.
use Rattle.file.proofs.Filling.{Strides}
use Rattle.file.proofs.fill.fill_bytes.Given as goal

abbrev pub invariant-loop-i : goal.invariant-loop-i
invariant-loop-i l = Strides l.initial.to l.file l.at l.stride l.n l.to l.i l.p
