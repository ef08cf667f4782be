-- `next_left` meets its contract.
use mathlib.Core.Path.{refl, ◌∙◌}
use native.Mathlib.Omega.{arith}
use Rattle.split.specs.Split.{Takes}
use Rattle.split.proofs.Splits.{carry-right, part_out, no-right}
use Rattle.split.proofs.Takes.{carried, part-takes}
use Rattle.split.proofs.next_left.Goals as goal

pub returns-then-part-l : goal.returns-then-part-l
returns-then-part-l c = Takes.ends (carry-right _ _ _ _ _ c.requires.2 ∙ part_out _ _ _ _ _ (omega arith)) refl

pub returns-then-part : goal.returns-then-part
returns-then-part c = Takes.ends (carry-right _ _ _ _ _ c.requires.2 ∙ no-right _ _ _ _ _ (omega arith) (omega arith)) refl

pub returns : goal.returns
returns c =
    carried (carry-right _ _ _ _ _ c.requires.2)
    (part-takes _ _ _ (omega arith) (omega arith) (omega arith) (rw c.at_pair.ensures at c.over.ensures))
