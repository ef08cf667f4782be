-- `sequence_of` meets its contract: the rows one after the other, and then the evaluator on the one session.
use mathlib.Core.Path.{refl}
use Prim.Native.Nat.{◌*◌, ◌≤◌}
use native.Mathlib.Nat.{mul-le-mul}
use native.Mathlib.Omega.{arith}
use Rattle.rules.specs.Limits.{most_sessions}
use Rattle.rules.specs.Kinds.{most_number}
use Rattle.session.specs.Recording.{recording}
use Rattle.formula.specs.Kinds.{node_of, nodes}
use Rattle.verdict.proofs.Checking.{decided-data, decided-list, checkable, sequence-refused, ready_for}
use Rattle.verdict.proofs.Sequencing.{sequence-on}
use Rattle.verdict.proofs.sequence_of.Goals as goal

pub returns-in_err-test : goal.returns-in_err-test
returns-in_err-test c =
    let a = c.args in
    let i = recording a.r a.m a.marks.now a.lengths.now a.words.now in
    let k = nodes a.codes.now a.lefts.now a.rights.now a.sizes.now in
    let e = c.in_err-test in
    sequence-refused i k (node_of a.root) a.on.0 _ e.field-0.0 (decided-data i k (node_of a.root) e.field-0.0 e.ensures) c.from_residual.ensures

pub returns-in_err-check : goal.returns-in_err-check
returns-in_err-check c =
    let a = c.args in
    let i = recording a.r a.m a.marks.now a.lengths.now a.words.now in
    let k = nodes a.codes.now a.lefts.now a.rights.now a.sizes.now in
    let e = c.in_err-check in
    sequence-refused i k (node_of a.root) a.on.0 _ e.field-0.0 (decided-list i k (node_of a.root) _ c.in_ok-test.ensures e.ensures)
    c.from_residual-in_err-check.ensures

pub returns-then-r-j : goal.returns-then-r-j
returns-then-r-j c =
    let a = c.args in
    record {
      number = decided-list (recording a.r a.m a.marks.now a.lengths.now a.words.now) (nodes a.codes.now a.lefts.now a.rights.now a.sizes.now)
          (node_of a.root) 0 c.in_ok-test.ensures c.in_ok-check.ensures;
      carries = c.if-r-j.true;
    }

pub bounds-lengths-j : goal.bounds-lengths-j
bounds-lengths-j c =
    let a = c.args in
    let g = checkable (recording a.r a.m a.marks.now a.lengths.now a.words.now) (nodes a.codes.now a.lefts.now a.rights.now a.sizes.now)
    (node_of a.root) c.in_ok-test.ensures c.in_ok-check.ensures in
    let h = c.if-r-j.false in
    omega (arith, g.0.lengths-there)

pub overflow_mul-j : goal.overflow_mul-j
overflow_mul-j c =
    let a = c.args in
    let g = checkable (recording a.r a.m a.marks.now a.lengths.now a.words.now) (nodes a.codes.now a.lefts.now a.rights.now a.sizes.now)
    (node_of a.root) c.in_ok-test.ensures c.in_ok-check.ensures in
    let i = c.if-r-j.false in
    let h : a.on.0 * a.m ≤ most_sessions * most_number = mul-le-mul {n₂ = most_sessions} (omega (arith, g.1)) g.0.few in
    omega arith

pub eval-seq-requires : goal.eval-seq-requires
eval-seq-requires c =
    let a = c.args in
    let g = checkable (recording a.r a.m a.marks.now a.lengths.now a.words.now) (nodes a.codes.now a.lefts.now a.rights.now a.sizes.now)
    (node_of a.root) c.in_ok-test.ensures c.in_ok-check.ensures in
    let i = c.if-r-j.false in
    ready_for (recording a.r a.m a.marks.now a.lengths.now a.words.now) (nodes a.codes.now a.lefts.now a.rights.now a.sizes.now) (node_of a.root)
    g.0 a.on.0 (a.on.0 * a.m) (omega arith) refl

pub returns : goal.returns
returns c =
    let a = c.args in
    let i = recording a.r a.m a.marks.now a.lengths.now a.words.now in
    let k = nodes a.codes.now a.lefts.now a.rights.now a.sizes.now in
    let h = c.if-r-j.false in
    record {
      number = decided-list i k (node_of a.root) 0 c.in_ok-test.ensures c.in_ok-check.ensures;
      carries =
          sequence-on i k (node_of a.root) a.on.0 (checkable i k (node_of a.root) c.in_ok-test.ensures c.in_ok-check.ensures).0 (omega arith) c.eval-seq.ensures;
    }
