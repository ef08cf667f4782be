-- The goals of `find` that the search leaves.
use mathlib.Core.Path.{sym, ap, ◌∙◌}
use native.Mathlib.Omega.{arith}
use borrow.Author.Tests.{eqb-true}
use Rattle.names.specs.Names.{same_bytes}
use Rattle.names.proofs.Lookups.{letters-there, span-order, nothing-there, missed-start, missed-turn, missed_here, missed-end}
use Rattle.names.proofs.lookup.find.Goals as goal

pub returns-then-is_empty : goal.returns-then-is_empty
returns-then-is_empty c = let a = c.args in nothing-there a.section.now a.word.now (eqb-true _ _ (sym c.if-is_empty.ensures))

pub loop-j-init : goal.loop-j-init
loop-j-init c = missed-start _ _ _

pub slice_bounds-same-count : goal.slice_bounds-same-count
slice_bounds-same-count c =
    let o = span-order c.args.section.now c.loop-j.j c.letters-from.ensures in
    omega (arith, o.0, o.1)

pub slice_bounds-same-start : goal.slice_bounds-same-start
slice_bounds-same-start c =
    let o = span-order c.args.section.now c.loop-j.j c.letters-from.ensures in
    omega (arith, o.0, o.1)

pub slice_bounds-same-end : goal.slice_bounds-same-end
slice_bounds-same-end c =
    let o = span-order c.args.section.now c.loop-j.j c.letters-from.ensures in
    omega (arith, o.0, o.1)

pub returns-then-same : goal.returns-then-same
returns-then-same c =
    let a = c.args in
    missed_here a.section.now a.word.now _ c.loop-j.invariant c.loop-j-test.true
    (ap (same_bytes a.word.now) (sym (letters-there a.section.now c.loop-j.j c.letters-from.ensures)) ∙ sym c.same.ensures ∙ c.if-same.true)

pub loop-j-preserved : goal.loop-j-preserved
loop-j-preserved c =
    let a = c.args in
    missed-turn a.section.now a.word.now _ c.loop-j.invariant c.loop-j-test.true
    (ap (same_bytes a.word.now) (sym (letters-there a.section.now c.loop-j.j c.letters-from.ensures)) ∙ sym c.same.ensures ∙ c.if-same.false)

pub returns : goal.returns
returns c =
    let a = c.args in
    missed-end a.section.now a.word.now _ c.loop-j.invariant c.loop-j-test.false
