-- `words::implies` meets its contract.
use native.Mathlib.Omega.{arith}
use Rattle.words.proofs.Operators.{wide, implies-means}
use Rattle.words.proofs.implies.Goals as goal

pub returns : goal.returns
returns c = implies-means (wide (omega arith)) (wide (omega arith)) c.places.ensures
