-- `node_good` meets its contract: a code's group says which fields its node has.
use Rattle.operators.proofs.Groups.{in-unary, in-binary, in-neither}
use Rattle.formula.proofs.nodes.node_good.Goals as goal

pub unary_good-requires : goal.unary_good-requires
unary_good-requires c = let f = c.operator_of-group in in-unary _ f.result f.ensures c.in-Unary.is

pub binary_good-requires : goal.binary_good-requires
binary_good-requires c = let f = c.operator_of-group in in-binary _ f.result f.ensures c.in-Binary.is

pub leaf_good-requires : goal.leaf_good-requires
leaf_good-requires c =
    let f = c.operator_of-group in
    let n = in-neither _ f.result f.ensures c.in-Neither.is in
    (λ u. n.0 u.0 u.1, λ u. n.1 u.0 u.1)

pub returns-in-Unary : goal.returns-in-Unary
returns-in-Unary c = c.unary_good.ensures _ _ c.size_at.ensures

pub returns-in-Binary : goal.returns-in-Binary
returns-in-Binary c = c.binary_good.ensures _ _ c.size_at-in-Binary.ensures c.size_at-in-Binary-2.ensures

pub returns-in-Neither : goal.returns-in-Neither
returns-in-Neither c = c.leaf_good.ensures _ _
