-- The goals of `false_rows` that the search leaves.
use mathlib.Core.Path.{refl}
use native.Mathlib.Omega.{arith}
use Rattle.leaves.proofs.false_rows.Goals as goal

pub returns-then-rows-r : goal.returns-then-rows-r
returns-then-rows-r c = record { did = λ a. absurd (omega arith); stays = λ n. refl }
