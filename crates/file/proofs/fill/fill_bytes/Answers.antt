-- The goals of `fill_bytes` that the search leaves.
use native.Mathlib.Omega.{arith}
use Rattle.file.proofs.Filling.{strides-start, strides-next, strides-turn, strides-end}
use Rattle.file.proofs.fill.fill_bytes.Goals as goal

pub loop-i-init : goal.loop-i-init
loop-i-init c = strides-start _ _ _ _ _ c.requires.2

pub bounds-file-p : goal.bounds-file-p
bounds-file-p c = omega (arith, strides-next _ _ _ _ _ c.loop-i.invariant c.loop-i-test.true, c.requires.0)

pub bounds-to-i : goal.bounds-to-i
bounds-to-i c = omega (arith, c.loop-i.invariant.long, c.requires.1)

pub overflow_add-p : goal.overflow_add-p
overflow_add-p c = omega (arith, strides-next _ _ _ _ _ c.loop-i.invariant c.loop-i-test.true)

pub loop-i-preserved : goal.loop-i-preserved
loop-i-preserved c = strides-turn _ _ _ _ _ c.loop-i.invariant c.loop-i-test.true

pub shape_of-to : goal.shape_of-to
shape_of-to c = c.loop-i.invariant.long

pub returns : goal.returns
returns c = strides-end _ _ _ _ _ c.loop-i.invariant c.loop-i-test.false
