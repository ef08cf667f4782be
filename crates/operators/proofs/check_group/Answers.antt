-- `check_group` meets its contract: the table says whether an operator of the group has the code.
use mathlib.Core.Path.{subst}
use Rattle.rules.specs.Answers.{Tested}
use Rattle.operators.specs.Table.{GroupIs}
use Rattle.operators.proofs.Groups.{group-passes, group-refused}
use Rattle.operators.proofs.check_group.Goals as goal

pub returns-then-in_group : goal.returns-then-in_group
returns-then-in_group c = let s = c.args in group-passes s.unary s.code (subst (Tested (GroupIs s.unary s.code)) c.if-in_group.true c.in_group.ensures)

pub returns-else-in_group : goal.returns-else-in_group
returns-else-in_group c = let s = c.args in group-refused s.unary s.code (subst (Tested (GroupIs s.unary s.code)) c.if-in_group.false c.in_group.ensures)
