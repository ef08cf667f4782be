-- `words::strong_next` meets its contract.
use native.Mathlib.Omega.{arith}
use Rattle.words.proofs.Operators.{wide, strong-next-means}
use Rattle.words.proofs.strong_next.Goals as goal

pub returns : goal.returns
returns c = strong-next-means (wide (omega arith))
