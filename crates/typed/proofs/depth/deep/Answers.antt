-- The goals of `deep` that the search leaves.
use native.Mathlib.Omega.{arith}
use Rattle.typed.proofs.Nesting.{counted_start, counted_next, counted-deep, counted-on, counted-end}
use Rattle.typed.proofs.depth.deep.Goals as goal

pub loop-b-init : goal.loop-b-init
loop-b-init c = counted_start c.args.text.now

pub overflow_add-opened : goal.overflow_add-opened
overflow_add-opened c =
    let l = c.loop-b in
    let h = c.loop-b-test.true in
    omega (arith, l.invariant.opened-most, c.one-opened.ensures.most)

pub overflow_add-closed : goal.overflow_add-closed
overflow_add-closed c =
    let l = c.loop-b in
    let h = c.loop-b-test.true in
    omega (arith, l.invariant.closed-most, c.one-closed.ensures.most)

pub overflow_add-closed-in-loop-b : goal.overflow_add-closed-in-loop-b
overflow_add-closed-in-loop-b c =
    let l = c.loop-b in
    let h = c.loop-b-test.true in
    omega (arith, l.invariant.closed-most, c.one-closed.ensures.most)

pub returns-then-closed-opened : goal.returns-then-closed-opened
returns-then-closed-opened c =
    let l = c.loop-b in
    let h = c.loop-b-test.true in
    let a = counted_next c.args.text.now l.invariant h 40 l.invariant.opens c.one-opened.ensures.is in
    let b = counted_next c.args.text.now l.invariant h 41 l.invariant.closes c.one-closed.ensures.is in
    counted-deep c.args.text.now l.invariant h a b c.if-closed-opened.true

pub loop-b-preserved : goal.loop-b-preserved
loop-b-preserved c =
    let l = c.loop-b in
    let h = c.loop-b-test.true in
    let a = counted_next c.args.text.now l.invariant h 40 l.invariant.opens c.one-opened.ensures.is in
    let b = counted_next c.args.text.now l.invariant h 41 l.invariant.closes c.one-closed.ensures.is in
    counted-on c.args.text.now l.invariant h a b (omega (arith, l.invariant.opened-most, c.one-opened.ensures.most))
    (omega (arith, l.invariant.closed-most, c.one-closed.ensures.most)) (omega (arith, c.if-closed-opened.false))

pub returns : goal.returns
returns c = let l = c.loop-b in counted-end c.args.text.now l.invariant c.loop-b-test.false
