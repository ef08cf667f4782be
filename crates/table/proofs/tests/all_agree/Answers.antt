-- `all_agree` meets its contract: `all` over the sessions says of every one that it agrees, or finds one that doesn't.
use mathlib.Core.Bool.{true, false}
use mathlib.Core.Path.{◌≡◌, refl}
use native.Mathlib.Omega.{arith}
use borrow.Author.Rules.{rules}
use borrow.Author.Tests.{tests}
use Rattle.std.proofs.lemmas.Iterator.{cases_from_all, YieldsList-from_range}
use Rattle.table.specs.Acceptance.{agrees_at}
use Rattle.table.proofs.Acceptance.{every-answer}
use Rattle.table.proofs.tests.all_agree.Goals as goal

pub returns : goal.returns
returns c =
    let a = c.args in
    let f = agrees_at a.marks.now a.rows.now in
    every-answer a.r f c.all.result
    (cases_from_all _ _ _ (λ j. f j ≡ true) (λ j. f j ≡ false) c.all.ensures.ran (YieldsList-from_range 0 a.r a.r refl (omega arith)) (λ x q k. search (rules, tests)) (λ x q k. search (rules, tests)))
