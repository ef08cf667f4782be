-- `agrees_at` meets its contract.
use mathlib.Core.Path.{sym, ap, ◌∙◌}
use mathlib.Core.Bool.{Bool, beq}
use lib.Dec.{eqb}
use Rattle.table.proofs.Acceptance.{accepts-row, rejects-row, beq-true, beq-false}
use Rattle.table.proofs.tests.agrees_at.Goals as goal

pub returns-then-x-eq1 : goal.returns-then-x-eq1
returns-then-x-eq1 c = let a = c.args in beq-true _ ∙ ap (λ (b : Bool). beq b (eqb a.mark 1)) (sym (accepts-row a.x c.if-x-eq1.true))

pub returns-else-x-eq1 : goal.returns-else-x-eq1
returns-else-x-eq1 c = let a = c.args in beq-false (eqb a.mark 1) ∙ ap (λ (b : Bool). beq b (eqb a.mark 1)) (sym (rejects-row a.x c.if-x-eq1.false))
