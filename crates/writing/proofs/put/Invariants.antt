-- `put` meets its contract: the first bytes are written, one after the other, until all are or the text is full.
use Rattle.writing.proofs.Writing.{Written}
use Rattle.writing.proofs.put.Given as goal

abbrev pub invariant-loop-i : goal.invariant-loop-i
invariant-loop-i l = Written l.initial.text l.at l.bytes l.text l.i l.p
