-- `one_or_two` meets its contract: the first row is given, or the second, which always is.
use mathlib.Core.Path.{refl}
use mathlib.Core.Logic.{inl, inr}
use Rattle.rules.specs.Refusals.{Decided}
use Rattle.slices.proofs.good.one_or_two.Goals as goal

pub returns-then-outside : goal.returns-then-outside
unfolding Decided
returns-then-outside c = inl (c.if-outside.ensures, refl)

pub returns : goal.returns
unfolding Decided
returns c = inr (c.if-outside.ensures, inl (tt, refl))
