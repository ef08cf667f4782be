-- `CharSeq::unary` meets its contract: each arm calls the method of the operator with the code, and no other code has one.
use mathlib.Core.Path.{sym}
use native.Mathlib.Omega.{arith}
use borrow.Author.Rules.{rules}
use Rattle.sequence.specs.Operators.{not, weak_next, strong_next, finally, globally}
use Rattle.sequence.specs.Masked.UnaryBy.{operator, nothing}
use Rattle.sequence.proofs.Groups.{not-unary}
use Rattle.sequence.proofs.CharSeq.unary.Goals as goal

pub returns-in-0 : goal.returns-in-0
returns-in-0 c = operator not (sym c.in-0.is) (search rules)

pub returns-in-1 : goal.returns-in-1
returns-in-1 c = operator weak_next (sym c.in-1.is) (search rules)

pub returns-in-2 : goal.returns-in-2
returns-in-2 c = operator strong_next (sym c.in-2.is) (search rules)

pub returns-in-3 : goal.returns-in-3
returns-in-3 c = operator finally (sym c.in-3.is) (search rules)

pub returns-in-4 : goal.returns-in-4
returns-in-4 c = operator globally (sym c.in-4.is) (search rules)

pub returns-in_default : goal.returns-in_default
returns-in_default c = nothing (not-unary _ (omega arith)) c.nowhere.ensures
