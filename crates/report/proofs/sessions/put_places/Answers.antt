-- The goals of `put_places` that the search leaves.
use mathlib.Core.Path.{◌≡◌, sym, ◌∙◌}
use native.Mathlib.Omega.{arith}
use lib.ListN.{length}
use Rattle.formula.specs.Kinds.{nodes}
use Rattle.session.specs.Recording.{recording}
use Rattle.formula.proofs.Listed.{length-nodes}
use Rattle.writing.proofs.Writing.{wrote-length}
use Rattle.report.proofs.Composing.{no-places, one_place, all-places}
use Rattle.report.proofs.sessions.put_places.Goals as goal

pub overflow_cast-n : goal.overflow_cast-n
overflow_cast-n c =
    let a = c.args in
    let e = c.count-n.ensures ∙ sym (length-nodes a.codes.now a.lefts.now a.rights.now a.sizes.now) in
    omega (arith, e, c.requires.3)

pub loop-p-init : goal.loop-p-init
loop-p-init c =
    let a = c.args in (
      omega arith,
      no-places (recording a.r a.m a.marks.now a.lengths.now a.words.now) (nodes a.codes.now a.lefts.now a.rights.now a.sizes.now)
          a.under.now a.on.0 a.text.now a.at,
    )

pub put_listed-b-requires : goal.put_listed-b-requires
put_listed-b-requires c =
    let a = c.args in
    let p = c.requires in
    let e = c.count-n.ensures ∙ sym (length-nodes a.codes.now a.lefts.now a.rights.now a.sizes.now) in
    let t = c.loop-p-test.true in
    (p.0, p.1, omega (arith, e, p.2), omega (arith, e, p.2))

pub loop-p-preserved : goal.loop-p-preserved
loop-p-preserved c =
    let a = c.args in
    let l = c.loop-p in (
      omega arith,
      one_place (recording a.r a.m a.marks.now a.lengths.now a.words.now) (nodes a.codes.now a.lefts.now a.rights.now a.sizes.now)
          a.under.now a.on.0 l.p l.invariant.1 c.put_listed-b.ensures,
    )

pub shape_of-text : goal.shape_of-text
shape_of-text c = let w = c.loop-p.invariant.1 in wrote-length w.0 w.2

pub returns : goal.returns
returns c =
    let a = c.args in
    let l = c.loop-p in
    let e = c.count-n.ensures ∙ sym (length-nodes a.codes.now a.lefts.now a.rights.now a.sizes.now) in
    let z : l.p ≡ length (nodes a.codes.now a.lefts.now a.rights.now a.sizes.now) = omega (arith, e, l.invariant.0) in
    all-places (recording a.r a.m a.marks.now a.lengths.now a.words.now) (nodes a.codes.now a.lefts.now a.rights.now a.sizes.now) a.under.now
    a.on.0 z l.invariant.1
