-- `words::places` meets its contract.
use native.Mathlib.Omega.{arith}
use Rattle.words.proofs.Operators.{wide, places-means}
use Rattle.words.proofs.places.Goals as goal

pub returns : goal.returns
returns c = places-means (wide (omega arith))
