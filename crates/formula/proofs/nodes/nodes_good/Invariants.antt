-- `nodes_good` meets its contract: the nodes before the place that is tested fit.
use Rattle.formula.specs.Kinds.{nodes}
use Rattle.formula.specs.Faultless.{AllFit}
use Rattle.formula.proofs.nodes.nodes_good.Given as goal

abbrev pub invariant-loop-i : goal.invariant-loop-i
invariant-loop-i l = AllFit l.m (nodes l.codes l.lefts l.rights l.sizes) l.i
