-- `check_lengths` meets its contract.
use Rattle.sequence.specs.Sequence.{unequal}
use Rattle.rules.proofs.Refusals.{decided-given, decided-not}
use Rattle.operators.proofs.check_lengths.Goals as goal

pub returns-then-left-right : goal.returns-then-left-right
returns-then-left-right c = let s = c.args in decided-not (unequal s.left s.right) (λ n. n c.if-left-right.true)

pub returns-else-left-right : goal.returns-else-left-right
returns-else-left-right c = let s = c.args in decided-given (unequal s.left s.right) c.if-left-right.false
