-- `words::not` meets its contract.
use native.Mathlib.Omega.{arith}
use Rattle.words.proofs.Operators.{wide, not-means}
use Rattle.words.proofs.not.Goals as goal

pub returns : goal.returns
returns c = not-means (wide (omega arith)) c.places.ensures
