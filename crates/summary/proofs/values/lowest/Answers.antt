-- `lowest` meets its contract: trailing zeros stand below the lowest place that is set.
use native.Mathlib.Omega.{arith}
use Rattle.words.specs.Word.{width}
use Rattle.summary.proofs.Firsts.{none-set, lowest-there, lowest-least}
use Rattle.summary.proofs.values.lowest.Goals as goal

pub returns-then-x-eq0 : goal.returns-then-x-eq0
returns-then-x-eq0 c = none-set _ c.if-x-eq0.true

pub overflow_cast-p : goal.overflow_cast-p
overflow_cast-p c = omega (arith, lowest-there width c.args.x (omega arith) c.if-x-eq0.false)

pub returns : goal.returns
returns c = lowest-least c.args.x (omega arith) c.if-x-eq0.false
