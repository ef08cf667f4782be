-- The goals of `fill_words` that the search leaves.
use native.Mathlib.Omega.{arith}
use Rattle.file.proofs.Filling.{blocks_start, blocks-space, blocks-next, blocks-turn, blocks_end}
use Rattle.file.proofs.fill.fill_words.Goals as goal

pub loop-init : goal.loop-init
loop-init c = blocks_start _ _ _ _ _ c.requires.0 c.requires.1

pub overflow_add-p : goal.overflow_add-p
overflow_add-p c = omega (arith, blocks-next _ _ _ _ _ c.loop.invariant c.loop-test.true)

pub fill_session-requires : goal.fill_session-requires
fill_session-requires c =
    let s = c.loop.invariant in
    (omega (arith, blocks-space _ _ _ _ _ s c.loop-test.true, s.long), omega (arith, blocks-next _ _ _ _ _ s c.loop-test.true))

pub overflow_add-p-in-loop : goal.overflow_add-p-in-loop
overflow_add-p-in-loop c =
    omega (
      arith,
      blocks-next _ _ _ _ _ c.loop.invariant c.loop-test.true,
      c.well_formed,
    )

pub overflow_mul-p : goal.overflow_mul-p
overflow_mul-p c =
    omega (
      arith,
      blocks-next _ _ _ _ _ c.loop.invariant c.loop-test.true,
      c.well_formed,
    )

pub overflow_add-p-in-loop-2 : goal.overflow_add-p-in-loop-2
overflow_add-p-in-loop-2 c =
    omega (
      arith,
      blocks-next _ _ _ _ _ c.loop.invariant c.loop-test.true,
      c.well_formed,
    )

pub overflow_add-k : goal.overflow_add-k
overflow_add-k c =
    omega (
      arith,
      blocks-space _ _ _ _ _ c.loop.invariant c.loop-test.true,
      c.well_formed,
    )

pub loop-preserved : goal.loop-preserved
loop-preserved c = blocks-turn _ _ _ _ _ c.loop.invariant c.loop-test.true _ c.fill_session.ensures

pub shape_of-to : goal.shape_of-to
shape_of-to c = c.loop.invariant.long

pub returns : goal.returns
returns c = blocks_end _ _ _ _ _ c.loop.invariant c.loop-test.false
