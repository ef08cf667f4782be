-- `say_list` has said the numbers so far.
use Rattle.std.proofs.Common.{take}
use Rattle.std.specs.Io.KnownBytes.{Appends}
use Rattle.stored.specs.Lists.{listed}
use Rattle.stored.proofs.say_list.Given as goal

abbrev pub invariant-loop-x : goal.invariant-loop-x
invariant-loop-x g l = Appends (g.W.Write.contents l.fn.to) (g.W.Write.contents l.to) (listed g.T.Integer.text (take l.x-index l.list))
