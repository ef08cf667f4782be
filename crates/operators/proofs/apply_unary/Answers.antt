-- `apply_unary` meets its contract: the search finds the refusals by the laws named on the function, and what passed is read as the operator.
use Rattle.std.proofs.Common.{rules}
use Rattle.operators.proofs.Checks.{unary_read}
use Rattle.operators.proofs.apply_unary.Goals as goal

pub returns : goal.returns
returns c = unary_read c.args.code c.args.seq c.unary.result (search rules) (search rules) c.unary.ensures
