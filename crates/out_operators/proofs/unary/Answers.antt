-- `unary` meets its contract: the operator's answer, and then `out`.
use Rattle.out_operators.proofs.Operating.{unary-done}
use Rattle.out_operators.proofs.unary.Goals as goal

pub returns : goal.returns
returns c = unary-done _ _ _ c.apply_unary-answer.result c.apply_unary-answer.ensures _ _ _ c.put.ensures
