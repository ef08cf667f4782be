-- `mark_below` meets its contract: the mark is looked at first.
use mathlib.Core.Path.{subst}
use Rattle.formula.specs.Nodes.{Node, node_at}
use Rattle.formula.specs.Kinds.{nodes}
use Rattle.report.specs.Inner.{MarksBelow}
use Rattle.report.proofs.Marking.{below-unmarked, below-marked}
use Rattle.report.proofs.under.mark_below.Goals as goal

pub returns-then-marks-q-ne1 : goal.returns-then-marks-q-ne1
returns-then-marks-q-ne1 c =
    let a = c.args in
    below-unmarked a.marks.now (node_at (nodes a.codes.now a.lefts.now a.rights.now a.sizes.now) a.q) a.q c.if-marks-q-ne1.true

pub returns : goal.returns
returns c =
    let a = c.args in
    subst (λ (n : Node). MarksBelow a.marks.now a.q n c.mark_children.new.marks)
    c.node_at-node.ensures
    (below-marked a.marks.now _ a.q c.if-marks-q-ne1.false c.mark_children.ensures)
