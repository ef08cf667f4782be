-- `unfit` meets its contract: one test a number, and the state's.
use native.Mathlib.Omega.{arith}
use Rattle.turns.proofs.Fitting.{state-tells}
use Rattle.turns.proofs.unfit.Goals as goal

pub returns-then-bound-gt-BOUND : goal.returns-then-bound-gt-BOUND
returns-then-bound-gt-BOUND c = λ w. omega (arith, c.if-bound-gt-BOUND.true, w.bound-in)

pub returns-then-room-gt-ROOM : goal.returns-then-room-gt-ROOM
returns-then-room-gt-ROOM c = λ w. omega (arith, c.if-room-gt-ROOM.true, w.room_in)

pub returns-then-m-gt-PROPOSITIONS : goal.returns-then-m-gt-PROPOSITIONS
returns-then-m-gt-PROPOSITIONS c = λ w. omega (arith, c.if-m-gt-PROPOSITIONS.true, w.propositions-in)

pub returns-then-unary-gt-GROUP_MOST : goal.returns-then-unary-gt-GROUP_MOST
returns-then-unary-gt-GROUP_MOST c = λ w. omega (arith, c.if-unary-gt-GROUP_MOST.true, w.unary-few)

pub returns-then-binary-gt-GROUP_MOST : goal.returns-then-binary-gt-GROUP_MOST
returns-then-binary-gt-GROUP_MOST c = λ w. omega (arith, c.if-binary-gt-GROUP_MOST.true, w.binary-few)

pub returns : goal.returns
returns c =
    state-tells _ _ _ _ _ _ _ (omega (arith, c.if-bound-gt-BOUND.false)) (omega (arith, c.if-room-gt-ROOM.false))
    (omega (arith, c.if-m-gt-PROPOSITIONS.false)) (omega (arith, c.if-unary-gt-GROUP_MOST.false))
    (omega (arith, c.if-binary-gt-GROUP_MOST.false)) c.wrong.result c.wrong.ensures
