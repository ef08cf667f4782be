-- `put_session` meets its contract: the places, and then the root.
use Rattle.formula.specs.Kinds.{node_of, nodes}
use Rattle.session.specs.Recording.{recording}
use Rattle.verdict.proofs.Sequencing.{listed-passes, passed-list}
use Rattle.report.proofs.Marking.{few-places}
use Rattle.report.proofs.Composing.{one-session}
use Rattle.report.proofs.sessions.put_session.Goals as goal

pub put_places-a-requires : goal.put_places-a-requires
put_places-a-requires c =
    let a = c.args in
    let p = c.requires in (
      listed-passes (recording a.r a.m a.marks.now a.lengths.now a.words.now) (nodes a.codes.now a.lefts.now a.rights.now a.sizes.now)
          (node_of a.root) p.0,
      p.1,
      p.2.room,
      few-places (nodes a.codes.now a.lefts.now a.rights.now a.sizes.now) (node_of a.root) (
        a.m,
        passed-list (recording a.r a.m a.marks.now a.lengths.now a.words.now) (nodes a.codes.now a.lefts.now a.rights.now a.sizes.now)
            (node_of a.root) p.0,
      ),
    )

pub summary_at-s-requires : goal.summary_at-s-requires
summary_at-s-requires c = let p = c.requires in (p.0, p.1)

pub returns : goal.returns
returns c =
    let a = c.args in
    one-session (recording a.r a.m a.marks.now a.lengths.now a.words.now) (nodes a.codes.now a.lefts.now a.rights.now a.sizes.now) (node_of a.root)
    c.requires.2
    c.put_places-a.ensures c.summary_at-s.ensures c.put_root.ensures
