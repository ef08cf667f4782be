-- `first_disagreeing` meets its contract: the sessions before the one that is looked at agree.
use Rattle.formula.specs.Kinds.{node_of, nodes}
use Rattle.session.specs.Recording.{recording}
use Rattle.verdict.proofs.Checking.{Before}
use Rattle.verdict.proofs.agree.first_disagreeing.Given as goal

abbrev pub invariant-loop-j : goal.invariant-loop-j
invariant-loop-j l = Before (recording l.r l.m l.marks l.lengths l.words) (nodes l.codes l.lefts l.rights l.sizes) (node_of l.root) l.j
