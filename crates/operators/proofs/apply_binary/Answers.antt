-- `apply_binary` meets its contract: the search finds the refusals by the laws named on the function, and what passed is read as the operator.
use Rattle.std.proofs.Common.{rules}
use Rattle.operators.proofs.Checks.{binary_read}
use Rattle.operators.proofs.apply_binary.Goals as goal

pub returns : goal.returns
returns c =
    let s = c.args in
    binary_read s.code s.left s.right c.binary.result (search rules) (search rules) (search rules) (search rules) c.binary.ensures
