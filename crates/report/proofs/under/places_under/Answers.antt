-- The goals of `places_under` that the search leaves.
use mathlib.Core.Path.{sym, ◌∙◌}
use native.Mathlib.Omega.{arith}
use Rattle.rules.specs.Limits.{most_room}
use Rattle.formula.specs.Kinds.{node_of, nodes}
use Rattle.formula.proofs.Listed.{length-nodes}
use Rattle.report.proofs.Marking.{few-places, start-room, starts, goes_on, ends}
use Rattle.report.proofs.under.places_under.Goals as goal

pub loop-q-init : goal.loop-q-init
loop-q-init c =
    let a = c.args in
    let e = c.count-n.ensures ∙ sym (length-nodes a.codes.now a.lefts.now a.rights.now a.sizes.now) in (
      omega (arith, e),
      start-room (nodes a.codes.now a.lefts.now a.rights.now a.sizes.now) (node_of a.root) c.requires most_room _
          (few-places (nodes a.codes.now a.lefts.now a.rights.now a.sizes.now) (node_of a.root) c.requires) c.mark_children.ensures,
      starts (nodes a.codes.now a.lefts.now a.rights.now a.sizes.now) (node_of a.root) c.requires most_room _ (few-places (nodes
          a.codes.now a.lefts.now a.rights.now a.sizes.now) (node_of a.root) c.requires) c.mark_children.ensures e,
    )

pub slice_bounds-mark_below-end : goal.slice_bounds-mark_below-end
slice_bounds-mark_below-end c = omega (arith, c.loop-q.invariant.1)

pub mark_below-requires : goal.mark_below-requires
mark_below-requires c =
    let a = c.args in
    omega (
      arith,
      few-places (nodes a.codes.now a.lefts.now a.rights.now a.sizes.now) (node_of a.root)
          c.requires,
      c.loop-q.invariant.0,
      c.loop-q.invariant.1,
    )

pub loop-q-preserved : goal.loop-q-preserved
loop-q-preserved c =
    let a = c.args in
    let l = c.loop-q in (
      omega (arith, l.invariant.0),
      c.mark_below.ensures.same ∙ l.invariant.1,
      goes_on (nodes a.codes.now a.lefts.now a.rights.now
          a.sizes.now) (node_of a.root) c.requires most_room _ (few-places (nodes a.codes.now a.lefts.now a.rights.now a.sizes.now)
          (node_of a.root) c.requires) c.mark_children.ensures l.q _ (omega (arith, c.loop-q-test.true)) l.invariant.0 l.invariant.1 l.invariant.2
          c.mark_below.ensures,
    )

pub returns : goal.returns
returns c =
    let a = c.args in
    let l = c.loop-q in
    ends (nodes a.codes.now a.lefts.now a.rights.now a.sizes.now) (node_of a.root)
    c.requires most_room _
    (few-places (nodes a.codes.now a.lefts.now a.rights.now a.sizes.now) (node_of a.root)
    c.requires) c.mark_children.ensures
    (omega (arith, c.loop-q-test.false)) l.invariant.1 l.invariant.2
