-- The goals of `put` that the search leaves.
use native.Mathlib.Omega.{arith}
use Rattle.writing.proofs.Writing.{none_written, same-room, one_written, all-written, cut_off}
use Rattle.writing.proofs.put.Goals as goal

pub loop-i-init : goal.loop-i-init
loop-i-init c = none_written _ _ _

pub shape_of-text-then-text-p : goal.shape_of-text-then-text-p
shape_of-text-then-text-p c = let a = c.args in same-room a.text.now a.at a.bytes.now c.loop-i.invariant

pub returns-then-text-p : goal.returns-then-text-p
returns-then-text-p c = let a = c.args in cut_off a.text.now a.at a.bytes.now c.loop-i.invariant c.if-text-p.true

pub overflow_add-p : goal.overflow_add-p
overflow_add-p c = let a = c.args in omega (arith, same-room a.text.now a.at a.bytes.now c.loop-i.invariant)

pub loop-i-preserved : goal.loop-i-preserved
loop-i-preserved c =
    let a = c.args in
    one_written a.text.now a.at a.bytes.now c.loop-i.invariant c.loop-i-test.true c.if-text-p.false

pub shape_of-text : goal.shape_of-text
shape_of-text c = let a = c.args in same-room a.text.now a.at a.bytes.now c.loop-i.invariant

pub returns : goal.returns
returns c = let a = c.args in all-written a.text.now a.at a.bytes.now c.loop-i.invariant c.loop-i-test.false
