-- The goals of `first_disagreeing` that the search leaves.
use mathlib.Core.Path.{refl, sym, ◌∙◌}
use mathlib.Core.Bool.{true≢false}
use Prim.Native.Nat.{◌+◌, ◌*◌, ◌≤◌}
use lib.ListN.{length}
use native.Mathlib.Omega.{arith}
use Rattle.formula.specs.Kinds.{node_of, nodes}
use Rattle.session.specs.Recording.{recording}
use Rattle.verdict.proofs.Checking.{one_more, agrees-seq, words-room, ready_for}
use Rattle.verdict.proofs.agree.first_disagreeing.Goals as goal

pub loop-j-init : goal.loop-j-init
loop-j-init c = λ t s h l. absurd (omega arith)

pub bounds-lengths-j : goal.bounds-lengths-j
bounds-lengths-j c = omega (arith, c.requires.lengths-there)

pub overflow_mul-j : goal.overflow_mul-j
overflow_mul-j c =
    let a = c.args in
    let h : c.loop-j.j * a.m + a.m ≤ length a.words.now =
    words-room (recording a.r a.m a.marks.now a.lengths.now a.words.now) (nodes a.codes.now a.lefts.now a.rights.now a.sizes.now) (node_of a.root)
    c.requires c.loop-j.j (c.loop-j.j * a.m) (omega arith) refl in
    omega arith

pub eval-seq-requires : goal.eval-seq-requires
eval-seq-requires c =
    let a = c.args in
    ready_for (recording a.r a.m a.marks.now a.lengths.now a.words.now) (nodes a.codes.now a.lefts.now a.rights.now a.sizes.now) (node_of a.root)
    c.requires c.loop-j.j (c.loop-j.j * a.m) (omega arith) refl

pub bounds-marks-j : goal.bounds-marks-j
bounds-marks-j c = omega (arith, c.requires.marks-there)

pub loop-j-preserved : goal.loop-j-preserved
loop-j-preserved c =
    let a = c.args in
    let i = recording a.r a.m a.marks.now a.lengths.now a.words.now in
    let k = nodes a.codes.now a.lefts.now a.rights.now a.sizes.now in
    one_more i k (node_of a.root) c.loop-j.j c.loop-j.invariant
    (λ t s. (agrees-seq i k (node_of a.root) c.loop-j.j (c.loop-j.j * a.m) c.eval-seq.result c.agrees.result refl c.eval-seq.ensures c.agrees.ensures t s).0 c.if-not-agrees.false)

pub returns-then-not-agrees : goal.returns-then-not-agrees
returns-then-not-agrees c =
    let a = c.args in
    let i = recording a.r a.m a.marks.now a.lengths.now a.words.now in
    let k = nodes a.codes.now a.lefts.now a.rights.now a.sizes.now in
    record {
      upto = omega arith;
      before = c.loop-j.invariant;
      here =
          λ t s h g. true≢false (sym ((agrees-seq i k (node_of a.root) c.loop-j.j (c.loop-j.j * a.m) c.eval-seq.result c.agrees.result refl c.eval-seq.ensures
          c.agrees.ensures t s).1 g) ∙ c.if-not-agrees.true);
    }

pub returns : goal.returns
returns c = record { upto = omega arith; before = λ t s h g. c.loop-j.invariant t s h (omega arith); here = λ t s h. absurd (omega arith) }
