-- `words::weak_next` meets its contract.
use native.Mathlib.Omega.{arith}
use Rattle.words.proofs.Operators.{wide, weak-next-means}
use Rattle.words.proofs.weak_next.Goals as goal

pub returns : goal.returns
returns c = weak-next-means (wide (omega arith)) (wide (omega arith)) c.places.ensures
