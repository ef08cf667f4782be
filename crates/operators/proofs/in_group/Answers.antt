-- `in_group` meets its contract: the row of the table says which operators have the code.
use Rattle.operators.proofs.Groups.{in-unary, in-binary, in-neither, group-unary, group-binary, group-neither}
use Rattle.operators.proofs.in_group.Goals as goal

pub returns-in-Unary : goal.returns-in-Unary
returns-in-Unary c =
    let f = c.operator_of-group in
    let op = in-unary _ f.result f.ensures c.in-Unary.is in
    group-unary c.args.unary _ op.0 op.1

pub returns-in-Binary : goal.returns-in-Binary
returns-in-Binary c =
    let f = c.operator_of-group in
    let op = in-binary _ f.result f.ensures c.in-Binary.is in
    group-binary c.args.unary _ op.0 op.1

pub returns-in-Neither : goal.returns-in-Neither
returns-in-Neither c =
    let f = c.operator_of-group in
    let n = in-neither _ f.result f.ensures c.in-Neither.is in
    group-neither c.args.unary _ n.0 n.1
