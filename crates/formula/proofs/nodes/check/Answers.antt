-- `check` meets its contract: the count, then each listed node, then the root.
use mathlib.Core.Path.{sym, ◌∙◌}
use Rattle.formula.proofs.Listed.{length-nodes}
use Rattle.formula.proofs.Tests.{too-many, one-fails, all_pass}
use Rattle.formula.proofs.nodes.check.Goals as goal

pub returns-then-n-gt-ROOM : goal.returns-then-n-gt-ROOM
returns-then-n-gt-ROOM c =
    let a = c.args in
    too-many _ _ _ (length-nodes a.codes.now a.lefts.now a.rights.now a.sizes.now ∙ sym c.count-n.ensures) c.if-n-gt-ROOM.true

pub returns-then-listed-rooted : goal.returns-then-listed-rooted
returns-then-listed-rooted c =
    let a = c.args in
    all_pass _ _ _ (length-nodes a.codes.now a.lefts.now a.rights.now a.sizes.now ∙ sym c.count-n.ensures)
    c.nodes_good-listed.result c.node_good-rooted.result c.if-n-gt-ROOM.false c.nodes_good-listed.ensures c.node_good-rooted.ensures c.if-listed-rooted.true

pub returns-else-listed-rooted : goal.returns-else-listed-rooted
returns-else-listed-rooted c =
    let a = c.args in
    one-fails _ _ _ (length-nodes a.codes.now a.lefts.now a.rights.now a.sizes.now ∙ sym c.count-n.ensures)
    c.nodes_good-listed.result c.node_good-rooted.result c.nodes_good-listed.ensures c.node_good-rooted.ensures c.if-listed-rooted.false
