-- `unary_good` meets its contract: its tests are made at once.
use Rattle.formula.specs.Kinds.{node_of}
use Rattle.formula.proofs.Judged.{unary-judged}
use Rattle.formula.proofs.nodes.unary_good.Goals as goal

pub returns : goal.returns
returns c = λ m k e.
    let a = c.args in
    unary-judged m k a.below (node_of a.node) a.l c.requires e
