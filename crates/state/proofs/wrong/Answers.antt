-- `wrong` meets its contract: one test a number, and the position against the list that is gone through.
use mathlib.Core.Logic.{inl, inr}
use Prim.Native.Nat.{◌-◌}
use native.Mathlib.Omega.{arith}
use borrow.Author.Tests.{ne_eqb}
use Rattle.state.proofs.Passing.{Others, position-passes, position-tells}
use Rattle.state.proofs.wrong.Goals as goal
use Rattle.state.proofs.wrong.Goals.{Else-kept-state-2}

others : (c : Else-kept-state-2) → let a = c.args in Others a.bound a.room a.state
others c = record {
  kept_in = omega arith;
  kept-tried = omega (arith, c.if-state-kept.false);
  size_in = (omega (arith, c.if-state-lt1.false), omega (arith, c.if-bound-state.false));
  left_in = omega (arith, c.if-kept-state.false);
  right-in = omega (arith, c.if-kept-state-2.false);
}

pub returns-then-room-kept : goal.returns-then-room-kept
returns-then-room-kept c = inl c.if-room-kept.true

pub returns-then-state-kept : goal.returns-then-state-kept
returns-then-state-kept c = inr (inl c.if-state-kept.true)

pub returns-then-state-lt1 : goal.returns-then-state-lt1
returns-then-state-lt1 c = inr (inr (inl (inl c.if-state-lt1.true)))

pub returns-then-bound-state : goal.returns-then-bound-state
returns-then-bound-state c = inr (inr (inl (inr c.if-bound-state.true)))

pub returns-then-kept-state : goal.returns-then-kept-state
returns-then-kept-state c = inr (inr (inr (inl c.if-kept-state.true)))

pub returns-then-kept-state-2 : goal.returns-then-kept-state-2
returns-then-kept-state-2 c = inr (inr (inr (inr (inl c.if-kept-state-2.true))))

pub returns-then-operator-lt2 : goal.returns-then-operator-lt2
returns-then-operator-lt2 c =
    let a = c.args in
    position-passes a.m a.constants a.unary a.binary (others (goal.at.returns-then-operator-lt2 c).Else-kept-state-2)
    (rw (c.if-state-eq1.true, c.if-constants-eq1.true) (omega (arith, c.if-operator-lt2.true)))

pub returns-then-constants-eq1 : goal.returns-then-constants-eq1
returns-then-constants-eq1 c =
    let a = c.args in
    position-tells a.m a.constants a.unary a.binary (others (goal.at.returns-then-constants-eq1 c).Else-kept-state-2) a.m (a.state.at.operator - 2)
    (λ h. rw (c.if-state-eq1.true, c.if-constants-eq1.true) (omega (arith, c.if-operator-lt2.false)))
    (λ h. rw (c.if-state-eq1.true, c.if-constants-eq1.true) (omega (arith, c.if-operator-lt2.false)))

pub returns-then-state-eq1 : goal.returns-then-state-eq1
returns-then-state-eq1 c =
    let a = c.args in
    position-tells a.m a.constants a.unary a.binary (others (goal.at.returns-then-state-eq1 c).Else-kept-state-2) _ _ (λ h. rw (c.if-state-eq1.true, ne_eqb _ 1 c.if-constants-eq1.false) h)
    (λ h. rw (c.if-state-eq1.true, ne_eqb _ 1 c.if-constants-eq1.false) h)

pub returns-then-state-eq0 : goal.returns-then-state-eq0
returns-then-state-eq0 c =
    let a = c.args in
    position-tells a.m a.constants a.unary a.binary (others (goal.at.returns-then-state-eq0 c).Else-kept-state-2) _ _ (λ h. rw (ne_eqb _ 1 c.if-state-eq1.false, c.if-state-eq0.true) h)
    (λ h. rw (ne_eqb _ 1 c.if-state-eq1.false, c.if-state-eq0.true) h)

pub returns-then-binary-operator : goal.returns-then-binary-operator
returns-then-binary-operator c =
    inr (inr (inr (inr (inr (rw (ne_eqb _ 1 c.if-state-eq1.false, ne_eqb _ 0 c.if-state-eq0.false) (omega (arith, c.if-binary-operator.true)))))))

pub returns : goal.returns
returns c =
    let a = c.args in
    position-passes a.m a.constants a.unary a.binary (others (goal.at.returns c).Else-kept-state-2)
    (rw (ne_eqb _ 1 c.if-state-eq1.false, ne_eqb _ 0 c.if-state-eq0.false) (omega (arith, c.if-binary-operator.false)))
