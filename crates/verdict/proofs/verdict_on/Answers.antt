-- `verdict_on` meets its contract: the test decides.
use mathlib.Core.Path.{refl}
use mathlib.Core.Logic.{inl, inr}
use Rattle.verdict.proofs.verdict_on.Goals as goal

pub returns-then-first-r : goal.returns-then-first-r
returns-then-first-r c = inl (c.if-first-r.true, refl)

pub returns : goal.returns
returns c = inr (c.if-first-r.false, refl)
