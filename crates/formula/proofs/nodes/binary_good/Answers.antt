-- `binary_good` meets its contract: its tests are made at once.
use Rattle.formula.specs.Kinds.{node_of}
use Rattle.formula.proofs.Judged.{binary-judged}
use Rattle.formula.proofs.nodes.binary_good.Goals as goal

pub returns : goal.returns
returns c = λ m k e f.
    let a = c.args in
    binary-judged m k a.below (node_of a.node) a.l a.r c.requires e f
