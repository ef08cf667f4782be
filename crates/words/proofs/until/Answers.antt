-- The goals of `until` that the search leaves.
use native.Mathlib.Omega.{arith}
use Rattle.words.proofs.Operators.{wide, and-means, doubled-first, doubled-next, until-whole, until-stopped, until-on}
use Rattle.words.proofs.until.Goals as goal

pub loop-d-init : goal.loop-d-init
loop-d-init c = (doubled-first, omega arith)

pub returns-then-x-eq0 : goal.returns-then-x-eq0
returns-then-x-eq0 c =
    let s = c.args in until-on s.x s.y s.mask (until-stopped
    (and-means {x = s.y} {y = s.mask} (wide (omega arith)) (wide (omega arith))).wf (omega arith) (omega arith) c.loop-d.invariant.0)

pub loop-d-preserved : goal.loop-d-preserved
loop-d-preserved c = (doubled-next _ c.loop-d.invariant.0, omega arith)

pub returns : goal.returns
returns c =
    let s = c.args in until-on s.x s.y s.mask
    (until-whole (and-means {x = s.y} {y = s.mask} (wide (omega arith)) (wide (omega arith))).wf (omega arith) c.loop-d.invariant.0)
