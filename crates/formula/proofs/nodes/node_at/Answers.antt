-- `node_at` meets its contract: the four numbers at the place are the node there, and past the shortest slice there is none.
use mathlib.Core.Path.{sym, ◌∙◌}
use native.Mathlib.Omega.{arith}
use Rattle.formula.proofs.Listed.{node-at, node-off}
use Rattle.formula.proofs.nodes.node_at.Goals as goal

pub returns-then-count-at : goal.returns-then-count-at
returns-then-count-at c =
    let a = c.args in
    c.node_of.ensures
    ∙ sym (node-off a.codes.now a.lefts.now a.rights.now a.sizes.now a.at (omega (arith, c.count.ensures, c.if-count-at.true)))

pub returns : goal.returns
returns c =
    let a = c.args in
    c.node_of-2.ensures
    ∙ sym (node-at a.codes.now a.lefts.now a.rights.now a.sizes.now a.at (omega (arith, c.count.ensures, c.if-count-at.false)))
