-- `twice` meets its contract.
use Rattle.split.proofs.Marks.{twice-listed}
use Rattle.split.proofs.twice.Goals as goal

pub returns : goal.returns
returns c = twice-listed _ c.if-split-eq0.false c.operator_of.ensures
