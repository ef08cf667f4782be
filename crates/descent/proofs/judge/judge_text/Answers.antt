-- `judge_text` meets its contract: each return is a law of `Judging`.
use mathlib.Core.Logic.{inl, inr}
use Rattle.descent.proofs.Judging.{judged-unknown, judged-large, judged-nodes}
use Rattle.descent.proofs.judge.judge_text.Goals.{then-size-gt-BOUND-via-then-size-gt-BOUND, then-size-gt-BOUND-via-else-size-gt-BOUND+then-deep}
use Rattle.descent.proofs.judge.judge_text.Goals as goal

pub returns-in-Some : goal.returns-in-Some
returns-in-Some c = judged-unknown _ _ _ _ c.if-text-gt-TYPED.false c.requires c.in_ok-size.ensures c.in-Some.k c.in-Some.ensures

pub returns-then-size-gt-BOUND : goal.returns-then-size-gt-BOUND
returns-then-size-gt-BOUND c =
    judged-large _ _ _ _ c.if-text-gt-TYPED.false c.requires c.in_ok-size.ensures c.in_default.ensures
    (elim c.then-size-gt-BOUND.branch [
      | then-size-gt-BOUND-via-then-size-gt-BOUND w ↦ inl w.if-size-gt-BOUND.true
      | then-size-gt-BOUND-via-else-size-gt-BOUND+then-deep w ↦ inr w.if-deep.ensures
    ])

pub returns : goal.returns
returns c =
    judged-nodes _ _ _ _ c.if-text-gt-TYPED.false c.requires c.in_ok-size.ensures c.in_default.ensures c.if-size-gt-BOUND.false c.if-deep.ensures
