-- `part_step` meets its contract.
use mathlib.Core.Path.{refl}
use native.Mathlib.Omega.{arith}
use Rattle.std.proofs.lemmas.Bool.Decides.{nat_tests}
use Rattle.split.specs.Split.{Takes}
use Rattle.split.proofs.Splits.{carry-operator, part_out, no-codes, past-right, past-operator}
use Rattle.split.proofs.Takes.{carried, part-takes}
use Rattle.split.proofs.part_step.Goals as goal

pub returns-then-part-at : goal.returns-then-part-at
returns-then-part-at c = Takes.ends (part_out _ _ _ _ _ (omega arith)) refl

pub returns-then-is_empty : goal.returns-then-is_empty
returns-then-is_empty c = Takes.ends (no-codes _ _ _ _ _ (grind (arith, nat_tests))) refl

pub next_left-requires : goal.next_left-requires
next_left-requires c = (omega arith, grind (arith, nat_tests), past-right _ _ _ (omega arith))

pub returns-then-at-codes : goal.returns-then-at-codes
returns-then-at-codes c = part-takes _ _ _ (omega arith) (omega arith) (omega arith) c.over.ensures

pub next_left-requires-then-to-q-2 : goal.next_left-requires-then-to-q-2
next_left-requires-then-to-q-2 c = (omega arith, grind (arith, nat_tests), past-operator _ _ _ (omega arith) (omega arith))

pub returns : goal.returns
returns c = carried (carry-operator _ _ _ _ _ (omega arith)) (part-takes _ _ _ (omega arith) (omega arith) (grind (arith, nat_tests)) (rw c.at_pair.ensures at c.over-2.ensures))
