-- `size_at` meets its contract: what `node_at` answers has the size.
use mathlib.Core.Path.{sym, ap}
use Rattle.formula.specs.Nodes.{Node}
use Rattle.formula.proofs.nodes.size_at.Goals as goal

pub returns : goal.returns
returns c = sym (ap (λ (n : Node). n.size) c.node_at.ensures)
