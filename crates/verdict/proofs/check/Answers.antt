-- `check` meets its contract: the rows one after the other, and then the sessions one after the other.
use native.Mathlib.Omega.{arith}
use Rattle.formula.specs.Kinds.{node_of, nodes}
use Rattle.session.specs.Recording.{recording}
use Rattle.verdict.proofs.Checking.{decided-data, decided-list, checkable, check-refused, verdict-answers}
use Rattle.verdict.proofs.check.Goals as goal

pub returns-in_err-test : goal.returns-in_err-test
returns-in_err-test c =
    let a = c.args in
    let i = recording a.r a.m a.marks.now a.lengths.now a.words.now in
    let k = nodes a.codes.now a.lefts.now a.rights.now a.sizes.now in
    let e = c.in_err-test in
    check-refused i k (node_of a.root) _ e.field-0.0 (decided-data i k (node_of a.root) e.field-0.0 e.ensures) c.from_residual.ensures

pub returns-in_err-check : goal.returns-in_err-check
returns-in_err-check c =
    let a = c.args in
    let i = recording a.r a.m a.marks.now a.lengths.now a.words.now in
    let k = nodes a.codes.now a.lefts.now a.rights.now a.sizes.now in
    let e = c.in_err-check in
    check-refused i k (node_of a.root) _ e.field-0.0 (decided-list i k (node_of a.root) _ c.in_ok-test.ensures e.ensures) c.from_residual-in_err-check.ensures

pub first_disagreeing-first-requires : goal.first_disagreeing-first-requires
first_disagreeing-first-requires c =
    let a = c.args in
    (checkable (recording a.r a.m a.marks.now a.lengths.now a.words.now) (nodes a.codes.now a.lefts.now a.rights.now a.sizes.now) (node_of a.root)
    c.in_ok-test.ensures c.in_ok-check.ensures).0

pub verdict_on-requires : goal.verdict_on-requires
verdict_on-requires c =
    let a = c.args in
    let f = c.first_disagreeing-first.ensures.upto in
    omega (
      arith,
      (checkable (recording a.r a.m a.marks.now a.lengths.now a.words.now) (nodes a.codes.now a.lefts.now a.rights.now a.sizes.now)
          (node_of a.root) c.in_ok-test.ensures c.in_ok-check.ensures).1,
    )

pub returns : goal.returns
returns c =
    let a = c.args in
    let i = recording a.r a.m a.marks.now a.lengths.now a.words.now in
    let k = nodes a.codes.now a.lefts.now a.rights.now a.sizes.now in
    let root = node_of a.root in
    verdict-answers i k root (checkable i k root c.in_ok-test.ensures c.in_ok-check.ensures).0 c.first_disagreeing-first.ensures
    (decided-list i k root 0 c.in_ok-test.ensures c.in_ok-check.ensures) c.verdict_on.result c.verdict_on.ensures
