-- `leaf_good` meets its contract: its tests are made at once.
use Rattle.formula.specs.Kinds.{node_of}
use Rattle.formula.proofs.Judged.{leaf-judged}
use Rattle.formula.proofs.nodes.leaf_good.Goals as goal

pub returns : goal.returns
returns c = λ k b.
    leaf-judged c.args.m k b (node_of c.args.node) c.requires.0 c.requires.1
