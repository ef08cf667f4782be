-- `report` meets its contract: the check's refusals, and else the report.
use Rattle.formula.specs.Kinds.{node_of, nodes}
use Rattle.session.specs.Recording.{recording}
use Rattle.report.proofs.Composing.{refused-as-check, passed-check}
use Rattle.report.proofs.report.Goals as goal

pub returns-in_err-check : goal.returns-in_err-check
returns-in_err-check c =
    let a = c.args in
    let e = c.in_err-check in
    refused-as-check (recording a.r a.m a.marks.now a.lengths.now a.words.now) (nodes a.codes.now a.lefts.now a.rights.now a.sizes.now)
    (node_of a.root) a.text.now e.field-0.0 _ e.ensures c.from_residual.ensures

pub write-requires : goal.write-requires
write-requires c =
    let a = c.args in
    passed-check (recording a.r a.m a.marks.now a.lengths.now a.words.now) (nodes a.codes.now a.lefts.now a.rights.now a.sizes.now)
    (node_of a.root) a.text.now c.in_ok-check.field-0 c.in_ok-check.ensures

pub returns : goal.returns
returns c = c.write.ensures
