-- The goals of `put_child` and `write` that the search leaves.
use mathlib.Core.Path.{sym, ap, subst}
use mathlib.Core.Logic.{inl, inr}
use native.Mathlib.Omega.{arith}
use Rattle.operators.proofs.Groups.{in-unary, in-binary, in-neither}
use Rattle.formula.specs.Nodes.{Node}
use Rattle.formula.specs.Kinds.{node_of, nodes}
use Rattle.text.specs.Inner.{Printable}
use Rattle.text.proofs.Printing.{printable-left, printable-right, unary-written, binary-written, child-written}
use Rattle.text.proofs.text.+put_child_write.Goals as goal

pub put_child-write-b-requires : goal.put_child-write-b-requires
put_child-write-b-requires t c =
    let a = c.args in
    let e = c.node_at-node.ensures in
    (omega (arith, ap (λ (n : Node). n.size) e), subst (Printable a.names.now (nodes a.codes.now a.lefts.now a.rights.now a.sizes.now)) (sym e) c.requires)

pub put_child-returns : goal.put_child-returns
put_child-returns t c =
    let a = c.args in
    child-written a.names.now (nodes a.codes.now a.lefts.now a.rights.now a.sizes.now) a.child.0
    c.node_at-node.ensures
    c.put-a.ensures
    c.write-b.ensures c.put.ensures

pub write-put_child-requires : goal.write-put_child-requires
write-put_child-requires t c =
    let a = c.args in
    let f = c.operator_of-group in
    let r = printable-left a.names.now (nodes a.codes.now a.lefts.now a.rights.now a.sizes.now) c.requires
    (inl (in-unary _ f.result f.ensures c.in-Unary.is)) in
    (omega (arith, r.1), r.0)

pub write-put_child-a-requires : goal.write-put_child-a-requires
write-put_child-a-requires t c =
    let a = c.args in
    let f = c.operator_of-group in
    let r = printable-left a.names.now (nodes a.codes.now a.lefts.now a.rights.now a.sizes.now) c.requires
    (inr (in-binary _ f.result f.ensures c.in-Binary.is)) in
    (omega (arith, r.1), r.0)

pub write-put_child-requires-in-Binary : goal.write-put_child-requires-in-Binary
write-put_child-requires-in-Binary t c =
    let a = c.args in
    let f = c.operator_of-group in
    let r = printable-right a.names.now (nodes a.codes.now a.lefts.now a.rights.now a.sizes.now) c.requires
    (in-binary _ f.result f.ensures c.in-Binary.is) in
    (omega (arith, r.1), r.0)

pub write-put_leaf-requires : goal.write-put_leaf-requires
write-put_leaf-requires t c =
    let a = c.args in
    let f = c.operator_of-group in
    let n = in-neither _ f.result f.ensures c.in-Neither.is in
    (nodes a.codes.now a.lefts.now a.rights.now a.sizes.now, c.requires, λ u. n.0 u.0 u.1, λ u. n.1 u.0 u.1)

pub write-returns-in-Unary : goal.write-returns-in-Unary
write-returns-in-Unary t c =
    let a = c.args in
    let f = c.operator_of-group in
    unary-written a.names.now (nodes a.codes.now a.lefts.now a.rights.now a.sizes.now) (node_of a.node)
    (in-unary _ f.result f.ensures c.in-Unary.is)
    c.put_token-a.ensures c.put_child.ensures

pub write-returns-in-Binary : goal.write-returns-in-Binary
write-returns-in-Binary t c =
    let a = c.args in
    let f = c.operator_of-group in
    binary-written a.names.now (nodes a.codes.now a.lefts.now a.rights.now a.sizes.now) (node_of a.node)
    (in-binary _ f.result f.ensures c.in-Binary.is)
    c.put_child-a.ensures c.put_between-b.ensures
    c.put_child-in-Binary.ensures
