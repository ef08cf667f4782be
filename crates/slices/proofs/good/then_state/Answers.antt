-- `then_state` meets its contract: the row is given, or it isn't.
use Rattle.rules.proofs.Refusals.{decided-given, decided-not}
use Rattle.slices.proofs.good.then_state.Goals as goal

pub returns-then-wrong : goal.returns-then-wrong
returns-then-wrong c = decided-given _ c.if-wrong.ensures

pub returns : goal.returns
returns c = decided-not _ c.if-wrong.ensures
