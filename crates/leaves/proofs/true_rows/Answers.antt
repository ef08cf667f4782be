-- The goals of `true_rows` that the search leaves.
use mathlib.Core.Path.{refl}
use native.Mathlib.Omega.{arith}
use borrow.Author.Rules.{rules}
use Rattle.loops.proofs.Filling.{filled_more}
use Rattle.leaves.proofs.true_rows.Goals as goal

pub returns-then-masks-r : goal.returns-then-masks-r
returns-then-masks-r c = record { did = λ a. absurd (omega (arith, a.masks-there)); stays = λ n. refl }

pub returns-then-rows-r : goal.returns-then-rows-r
returns-then-rows-r c = record { did = λ a. absurd (omega (arith, a.rows-there)); stays = λ n. refl }

pub loop-j-preserved : goal.loop-j-preserved
loop-j-preserved c = filled_more (omega arith) c.loop-j.invariant c.places.ensures

pub returns : goal.returns
returns c =
    record {
      did = λ a. (search rules);
      stays = λ n. absurd (n record { masks-there = omega arith; rows-there = omega arith });
    }
