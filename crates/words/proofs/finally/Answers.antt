-- `words::finally` meets its contract.
use native.Mathlib.Omega.{arith}
use Rattle.words.proofs.Operators.{wide, finally-means}
use Rattle.words.proofs.finally.Goals as goal

pub returns : goal.returns
returns c = finally-means (wide (omega arith)) (wide (omega arith))
