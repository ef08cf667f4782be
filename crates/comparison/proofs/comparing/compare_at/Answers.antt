-- `compare_at` meets its contract: the row at the place that is found differs, and no row before it.
use mathlib.Core.Path.{◌≡◌, refl}
use native.Mathlib.Omega.{arith}
use lib.ListN.{get_or}
use borrow.Author.Rules.{rules}
use borrow.Author.Tests.{tests}
use Rattle.std.proofs.lemmas.Iterator.{IsFirst-from_position, YieldsList-from_range}
use Rattle.comparison.proofs.Differences.{first-from_range}
use Rattle.comparison.proofs.comparing.compare_at.Goals as goal

pub returns-in-Some : goal.returns-in-Some
returns-in-Some c =
    let a = c.args in
    first-from_range a.r c.in-Some.j (λ j. get_or a.rows.now j 0 ≡ get_or a.x.now j 0 → ⊥) (λ j. get_or a.rows.now j 0 ≡ get_or a.x.now j 0)
    (rw c.in-Some.is at (IsFirst-from_position _ _ c.position.result (λ j. get_or a.rows.now j 0 ≡ get_or a.x.now j 0 → ⊥) (λ j. get_or a.rows.now j 0 ≡ get_or a.x.now j 0)
    c.position.ensures.ran (YieldsList-from_range 0 a.r a.r refl (omega arith)) (λ x q k. search (rules, tests)) (λ x q k. search (rules, tests))))
