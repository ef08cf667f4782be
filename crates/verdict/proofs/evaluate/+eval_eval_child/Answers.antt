-- The goals of `eval` and `eval_child` that the search leaves.
use mathlib.Core.Path.{sym, ap, subst}
use mathlib.Core.Logic.{inl, inr}
use native.Mathlib.Omega.{arith}
use Rattle.operators.proofs.Groups.{in-unary, in-binary, in-neither}
use Rattle.formula.specs.Nodes.{Node, node_at}
use Rattle.formula.specs.Kinds.{node_of, nodes}
use Rattle.verdict.specs.Inner.{Ready, Evaluated}
use Rattle.verdict.proofs.Places.{reach, reaches-left, reaches-right, reach-low}
use Rattle.verdict.proofs.Evaluation.{ready-left, ready-right, word-of-unary, word-of-binary}
use Rattle.verdict.proofs.evaluate.+eval_eval_child.Goals as goal

pub eval-eval_child-x-requires : goal.eval-eval_child-x-requires
eval-eval_child-x-requires t c =
    let a = c.args in
    let f = c.operator_of-group in
    let u = inl (in-unary _ f.result f.ensures c.in-Unary.is) in
    let r = ready-left a.length a.words.now a.from (nodes a.codes.now a.lefts.now a.rights.now a.sizes.now) (node_of a.node) c.requires
    u in
    (omega (arith, reaches-left (node_of a.node) u), r)

pub eval-eval_child-x-requires-in-Binary : goal.eval-eval_child-x-requires-in-Binary
eval-eval_child-x-requires-in-Binary t c =
    let a = c.args in
    let f = c.operator_of-group in
    let u = inr (in-binary _ f.result f.ensures c.in-Binary.is) in
    let r = ready-left a.length a.words.now a.from (nodes a.codes.now a.lefts.now a.rights.now a.sizes.now) (node_of a.node) c.requires
    u in
    (omega (arith, reaches-left (node_of a.node) u), r)

pub eval-eval_child-y-requires : goal.eval-eval_child-y-requires
eval-eval_child-y-requires t c =
    let a = c.args in
    let f = c.operator_of-group in
    let u = in-binary _ f.result f.ensures c.in-Binary.is in
    let r = ready-right a.length a.words.now a.from (nodes a.codes.now a.lefts.now a.rights.now a.sizes.now) (node_of a.node) c.requires
    u in
    (omega (arith, reaches-right (node_of a.node) u), r)

pub eval-leaf-requires : goal.eval-leaf-requires
eval-leaf-requires t c =
    let a = c.args in
    let f = c.operator_of-group in
    let n = in-neither _ f.result f.ensures c.in-Neither.is in
    (nodes a.codes.now a.lefts.now a.rights.now a.sizes.now, c.requires, λ u. n.0 u.0 u.1, λ u. n.1 u.0 u.1)

pub eval-returns-in-Unary : goal.eval-returns-in-Unary
eval-returns-in-Unary t c =
    let a = c.args in
    let f = c.operator_of-group in
    word-of-unary a.length a.words.now a.from (nodes a.codes.now a.lefts.now a.rights.now a.sizes.now) (node_of a.node)
    (in-unary _ f.result f.ensures c.in-Unary.is) c.eval_child-x.ensures c.unary.ensures

pub eval-returns-in-Binary : goal.eval-returns-in-Binary
eval-returns-in-Binary t c =
    let a = c.args in
    let f = c.operator_of-group in
    word-of-binary a.length a.words.now a.from (nodes a.codes.now a.lefts.now a.rights.now a.sizes.now) (node_of a.node)
    (in-binary _ f.result f.ensures c.in-Binary.is) c.eval_child-x-in-Binary.ensures c.eval_child-y.ensures
    c.binary.ensures

pub eval_child-eval-requires : goal.eval_child-eval-requires
eval_child-eval-requires t c =
    let a = c.args in
    let k = nodes a.codes.now a.lefts.now a.rights.now a.sizes.now in
    let low = reach-low (node_at k a.at.0) (c.requires.1.all a.at.0 c.requires.0) in (
      omega (arith, low, ap reach c.node_at-node.ensures),
      subst (Ready a.length a.words.now a.from k) (sym c.node_at-node.ensures) c.requires.1,
    )

pub eval_child-returns : goal.eval_child-returns
eval_child-returns t c =
    let a = c.args in
    subst (λ (n : Node). Evaluated a.length a.words.now a.from (nodes a.codes.now a.lefts.now a.rights.now a.sizes.now) n c.eval.result)
    c.node_at-node.ensures c.eval.ensures
