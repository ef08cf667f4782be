-- `one` meets its contract.
use Rattle.typed.proofs.Nesting.{one_of}
use Rattle.typed.proofs.depth.one.Goals as goal

pub returns : goal.returns
returns c = one_of _ _ _ c.from.ensures
