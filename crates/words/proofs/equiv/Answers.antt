-- `words::equiv` meets its contract.
use native.Mathlib.Omega.{arith}
use Rattle.words.proofs.Operators.{wide, equiv-means}
use Rattle.words.proofs.equiv.Goals as goal

pub returns : goal.returns
returns c = equiv-means (wide (omega arith)) (wide (omega arith)) c.places.ensures
