-- `CharSeq::binary` meets its contract: each arm calls the method of the operator with the code, and no other code has one.
use mathlib.Core.Path.{sym}
use native.Mathlib.Omega.{arith}
use borrow.Author.Rules.{rules}
use Rattle.sequence.specs.Operators.{or, and, until, release, implies, equiv}
use Rattle.sequence.specs.Masked.BinaryBy.{operator, nothing}
use Rattle.sequence.proofs.Groups.{not-binary}
use Rattle.sequence.proofs.CharSeq.binary.Goals as goal

pub returns-in-5 : goal.returns-in-5
returns-in-5 c = operator or (sym c.in-5.is) (search rules)

pub returns-in-6 : goal.returns-in-6
returns-in-6 c = operator and (sym c.in-6.is) (search rules)

pub returns-in-7 : goal.returns-in-7
returns-in-7 c = operator until (sym c.in-7.is) (search rules)

pub returns-in-8 : goal.returns-in-8
returns-in-8 c = operator release (sym c.in-8.is) (search rules)

pub returns-in-9 : goal.returns-in-9
returns-in-9 c = operator implies (sym c.in-9.is) (search rules)

pub returns-in-10 : goal.returns-in-10
returns-in-10 c = operator equiv (sym c.in-10.is) (search rules)

pub returns-in_default : goal.returns-in_default
returns-in_default c = nothing (not-binary _ (λ h. omega arith)) c.nowhere.ensures
