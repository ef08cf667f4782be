-- `operator_of` meets its contract: the table's rule at a code below 11, and no operator has another code.
use mathlib.Core.Path.{refl}
use native.Mathlib.Omega.{arith}
use Rattle.operators.specs.Table.{neither}
use Rattle.sequence.proofs.Groups.{not-unary, not-binary}
use Rattle.operators.proofs.Table.{row_at}
use Rattle.operators.proofs.operator_of.Goals as goal

pub returns-then-at-lt-COUNT : goal.returns-then-at-lt-COUNT
returns-then-at-lt-COUNT c = row_at _ c.args.code (omega arith)

pub returns-else-at-lt-COUNT : goal.returns-else-at-lt-COUNT
returns-else-at-lt-COUNT c = neither (not-unary _ (omega arith)) (not-binary _ (λ h. omega arith)) refl
