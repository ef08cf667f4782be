-- `mark_children` meets its contract: a code's group says which fields are children.
use Rattle.operators.proofs.Groups.{in-unary, in-binary, in-neither}
use Rattle.formula.specs.Kinds.{node_of}
use Rattle.report.proofs.Marking.{marks-left, marks-both, marks-none}
use Rattle.report.proofs.under.mark_children.Goals as goal

pub returns-in-Unary : goal.returns-in-Unary
returns-in-Unary c =
    let a = c.args in
    let f = c.operator_of-group in
    marks-left a.marks.now (node_of a.node) (in-unary _ f.result f.ensures c.in-Unary.is) c.mark.ensures

pub returns-in-Binary : goal.returns-in-Binary
returns-in-Binary c =
    let a = c.args in
    let f = c.operator_of-group in
    marks-both a.marks.now (node_of a.node) (in-binary _ f.result f.ensures c.in-Binary.is)
    c.mark-in-Binary.ensures c.mark-in-Binary-2.ensures

pub returns-in-Neither : goal.returns-in-Neither
returns-in-Neither c =
    let a = c.args in
    let f = c.operator_of-group in
    let n = in-neither _ f.result f.ensures c.in-Neither.is in
    marks-none a.marks.now (node_of a.node) (λ u. n.0 u.0 u.1) (λ u. n.1 u.0 u.1)
