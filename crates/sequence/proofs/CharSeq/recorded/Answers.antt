-- `CharSeq::recorded` meets its contract: what is not too long and not clear from its length on has a bit there.
use mathlib.Core.Path.{refl, sym, ◌∙◌}
use mathlib.Core.Bool.{true≢false}
use mathlib.Core.Logic.{inl, inr, ⊎_elim}
use native.Mathlib.Omega.{arith}
use lib.Dec.{lit<}
use Rattle.words.proofs.At.{wf-or-above}
use Rattle.rules.specs.Refusals.{Decided}
use Rattle.sequence.proofs.Answers.{recorded-passes}
use Rattle.sequence.proofs.CharSeq.recorded.Goals as goal

pub returns-then-length-gt-MAX_LENGTH : goal.returns-then-length-gt-MAX_LENGTH
unfolding Decided
returns-then-length-gt-MAX_LENGTH c = (inl (omega arith, refl), lit< tt)

pub returns-then-is_clear : goal.returns-then-is_clear
returns-then-is_clear c = (recorded-passes (c.is_clear.ensures.0 c.if-is_clear.true), (refl, refl))

pub returns-else-is_clear : goal.returns-else-is_clear
unfolding Decided
returns-else-is_clear c =
    let s = c.args in (
      inr (
        λ h. omega arith,
        ⊎_elim (λ t. inl (t, refl)) (λ w. absurd (true≢false (sym (c.is_clear.ensures.1 w) ∙ c.if-is_clear.false)))
            (wf-or-above {n = s.length} {x = s.values} (omega arith) (omega arith)),
      ),
      lit< tt,
    )
