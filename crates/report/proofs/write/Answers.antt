-- `write` meets its contract: the report in a room of its own, its length against the text's, and then the bytes.
use mathlib.Core.Path.{sym}
use lib.Seq.{length-take-le}
use Rattle.formula.specs.Kinds.{node_of, nodes}
use Rattle.session.specs.Recording.{recording}
use Rattle.verdict.proofs.Sequencing.{passed-list}
use Rattle.report.proofs.Composing.{whole-report, too_short, reported}
use Rattle.report.proofs.write.Goals as goal

pub places_under-under-requires : goal.places_under-under-requires
places_under-under-requires c =
    let a = c.args in (
      a.m,
      passed-list (recording a.r a.m a.marks.now a.lengths.now a.words.now) (nodes a.codes.now a.lefts.now a.rights.now a.sizes.now)
          (node_of a.root) c.requires,
    )

pub put_sessions-n-requires : goal.put_sessions-n-requires
put_sessions-n-requires c = (c.requires, c.places_under-under.ensures)

pub returns-then-text-n : goal.returns-then-text-n
returns-then-text-n c =
    let a = c.args in
    too_short (recording a.r a.m a.marks.now a.lengths.now a.words.now) (nodes a.codes.now a.lefts.now a.rights.now a.sizes.now) (node_of a.root)
    a.text.now c.requires c.put_sessions-n.ensures
    c.if-text-n.true

pub slice_bounds-whole-end : goal.slice_bounds-whole-end
slice_bounds-whole-end c =
    let a = c.args in
    (whole-report (recording a.r a.m a.marks.now a.lengths.now a.words.now) (nodes a.codes.now a.lefts.now a.rights.now a.sizes.now) (node_of a.root)
    a.text.now c.requires
    c.put_sessions-n.ensures).0

pub slice_bounds-put-end : goal.slice_bounds-put-end
slice_bounds-put-end c =
    let a = c.args in
    sym (length-take-le c.put_sessions-n.result _
    (whole-report (recording a.r a.m a.marks.now a.lengths.now a.words.now) (nodes a.codes.now a.lefts.now a.rights.now a.sizes.now) (node_of a.root)
    a.text.now c.requires
    c.put_sessions-n.ensures).0)

pub returns : goal.returns
returns c =
    let a = c.args in
    reported (recording a.r a.m a.marks.now a.lengths.now a.words.now) (nodes a.codes.now a.lefts.now a.rights.now a.sizes.now) (node_of a.root)
    a.text.now c.requires
    c.put_sessions-n.ensures c.if-text-n.false c.put.ensures
