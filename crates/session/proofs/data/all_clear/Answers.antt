-- The goals of `all_clear` that the search leaves.
use Prim.Native.Nat.{◌*◌}
use native.Mathlib.Omega.{arith}
use mathlib.Core.Bool.{true, false}
use borrow.Author.Count.{below_more}
use lib.ListN.{get_or}
use Rattle.session.specs.Inner.{Clear}
use Rattle.session.proofs.DataLaws.{block, clear-is}
use Rattle.session.proofs.data.all_clear.Goals as goal

pub returns-then-not-session_clear : goal.returns-then-not-session_clear
returns-then-not-session_clear c =
    let a = c.args in
    let i = c.loop-i.i in (
      i,
      c.loop-i-test.true,
      clear-is a.words.now (i * a.m) a.m (get_or a.lengths.now i 0) false (c.requires.2 i c.loop-i-test.true)
          (omega (arith, block i a.r a.m c.loop-i-test.true, c.requires.1)) (λ k. omega (arith, c.type_inv.words k)) (rw c.if-not-session_clear.true at c.session_clear.ensures),
    )

pub loop-i-preserved : goal.loop-i-preserved
loop-i-preserved c =
    let a = c.args in
    let i = c.loop-i.i in
    below_more (λ k. Clear a.words.now (k * a.m) a.m (get_or a.lengths.now k 0) true) i c.loop-i.invariant
    (clear-is a.words.now (i * a.m) a.m (get_or a.lengths.now i 0) true (c.requires.2 i c.loop-i-test.true)
    (omega (arith, block i a.r a.m c.loop-i-test.true, c.requires.1)) (λ k. omega (arith, c.type_inv.words k)) (rw c.if-not-session_clear.false at c.session_clear.ensures))

pub returns : goal.returns
returns c = λ k h. c.loop-i.invariant k (omega arith)
