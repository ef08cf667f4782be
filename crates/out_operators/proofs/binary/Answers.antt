-- `binary` meets its contract: the operator's answer, and then `out`.
use Rattle.out_operators.proofs.Operating.{binary-done}
use Rattle.out_operators.proofs.binary.Goals as goal

pub returns : goal.returns
returns c = binary-done _ _ _ _ _ c.apply_binary-answer.result c.apply_binary-answer.ensures _ _ _ c.put.ensures
