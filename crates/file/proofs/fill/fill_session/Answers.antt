-- The goals of `fill_session` that the search leaves.
use native.Mathlib.Omega.{arith}
use Rattle.file.proofs.Filling.{words-start, words-turn, words-end}
use Rattle.file.proofs.fill.fill_session.Goals as goal

pub loop-i-init : goal.loop-i-init
loop-i-init c = words-start _ _ _ _ _ c.requires.1

pub overflow_add-to : goal.overflow_add-to
overflow_add-to c = omega (arith, c.loop-i.invariant.upto, c.requires.0, c.well_formed)

pub offset_bounds-to-k : goal.offset_bounds-to-k
offset_bounds-to-k c = omega (arith, c.requires.0, c.well_formed)

pub bounds-to-k : goal.bounds-to-k
bounds-to-k c = omega (arith, c.loop-i.invariant.long, c.requires.0)

pub loop-i-preserved : goal.loop-i-preserved
loop-i-preserved c = words-turn _ _ _ _ _ c.loop-i.invariant c.loop-i-test.true _ (c.word_from.ensures.0 (omega (arith, c.loop-i.invariant.room)))

pub shape_of-to : goal.shape_of-to
shape_of-to c = c.loop-i.invariant.long

pub returns : goal.returns
returns c = words-end _ _ _ _ _ c.loop-i.invariant c.loop-i-test.false
