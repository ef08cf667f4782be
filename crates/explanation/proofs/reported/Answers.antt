-- `reported` meets its contract: what has passed the check is reported, and there is room for the longest report.
use Rattle.formula.specs.Kinds.{node_of, nodes}
use Rattle.session.specs.Recording.{recording}
use Rattle.explanation.proofs.Outcomes.{report-stands, not-refused}
use Rattle.explanation.proofs.reported.Goals as goal

pub returns-in-Ok : goal.returns-in-Ok
returns-in-Ok c =
    let a = c.args in report-stands
    (recording a.r a.m a.marks.now a.lengths.now a.words.now) (nodes a.codes.now a.lefts.now a.rights.now a.sizes.now) (node_of a.root)
    c.report-said.ensures c.requires.0 c.requires.1
    c.in-Ok.is

pub returns-in-Err : goal.returns-in-Err
returns-in-Err c =
    let a = c.args in absurd (not-refused
    (recording a.r a.m a.marks.now a.lengths.now a.words.now) (nodes a.codes.now a.lefts.now a.rights.now a.sizes.now) (node_of a.root)
    c.report-said.ensures c.requires.0 c.requires.1 c.in-Err.is)
