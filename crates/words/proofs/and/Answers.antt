-- `words::and` meets its contract.
use native.Mathlib.Omega.{arith}
use Rattle.words.proofs.Operators.{wide, and-means}
use Rattle.words.proofs.and.Goals as goal

pub returns : goal.returns
returns c = and-means (wide (omega arith)) (wide (omega arith))
