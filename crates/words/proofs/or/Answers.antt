-- `words::or` meets its contract.
use native.Mathlib.Omega.{arith}
use Rattle.words.proofs.Operators.{wide, or-means}
use Rattle.words.proofs.or.Goals as goal

pub returns : goal.returns
returns c = or-means (wide (omega arith)) (wide (omega arith))
