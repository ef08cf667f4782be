-- The goals of `put_sessions` that the search leaves.
use mathlib.Core.Path.{◌≡◌}
use native.Mathlib.Omega.{arith}
use Rattle.formula.specs.Kinds.{node_of, nodes}
use Rattle.session.specs.Recording.{recording}
use Rattle.verdict.proofs.Sequencing.{passed-sessions}
use Rattle.writing.proofs.Writing.{wrote-length}
use Rattle.report.proofs.Composing.{no-sessions, session-more, all-sessions}
use Rattle.report.proofs.sessions.put_sessions.Goals as goal

pub overflow_cast-n : goal.overflow_cast-n
overflow_cast-n c =
    let a = c.args in
    omega (
      arith,
      passed-sessions (recording a.r a.m a.marks.now a.lengths.now a.words.now) (nodes a.codes.now a.lefts.now a.rights.now a.sizes.now)
          (node_of a.root) c.requires.0,
    )

pub loop-j-init : goal.loop-j-init
loop-j-init c =
    let a = c.args in (
      omega arith,
      no-sessions (recording a.r a.m a.marks.now a.lengths.now a.words.now) (nodes a.codes.now a.lefts.now a.rights.now a.sizes.now)
          (node_of a.root) a.text.now,
    )

pub put_session-a-requires : goal.put_session-a-requires
put_session-a-requires c = let p = c.requires in (p.0, omega arith, p.1)

pub loop-j-preserved : goal.loop-j-preserved
loop-j-preserved c =
    let a = c.args in
    let l = c.loop-j in (
      omega arith,
      session-more (recording a.r a.m a.marks.now a.lengths.now a.words.now) (nodes a.codes.now a.lefts.now a.rights.now a.sizes.now)
          (node_of a.root) l.j l.invariant.1 c.put_session-a.ensures,
    )

pub shape_of-text : goal.shape_of-text
shape_of-text c = let w = c.loop-j.invariant.1 in wrote-length w.0 w.2

pub returns : goal.returns
returns c =
    let a = c.args in
    let l = c.loop-j in
    let z : l.j ≡ a.r = omega (arith, l.invariant.0) in
    all-sessions (recording a.r a.m a.marks.now a.lengths.now a.words.now) (nodes a.codes.now a.lefts.now a.rights.now a.sizes.now) (node_of a.root) z l.invariant.1
