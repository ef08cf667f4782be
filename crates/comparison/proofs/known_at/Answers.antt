-- `known_at` meets its contract: the loop's answer, where there are so many matrices.
use native.Mathlib.Omega.{arith}
use Rattle.rules.specs.Limits.{most_sessions, most_room}
use Rattle.leaves.proofs.Products.{at_most}
use Rattle.comparison.proofs.known_at.Goals as goal

pub overflow_mul-kept : goal.overflow_mul-kept
overflow_mul-kept c = let a = c.args in omega (arith, at_most a.kept most_room a.r most_sessions (omega arith) (omega arith))
