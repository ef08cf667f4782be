-- `places_under` meets its contract: from the last place down, each place has its mark before it is looked at.
use mathlib.Core.Path.{◌≡◌}
use Prim.Native.Nat.{◌≤◌}
use lib.ListN.{length}
use Rattle.rules.specs.Limits.{most_room}
use Rattle.formula.specs.Kinds.{nodes}
use Rattle.report.proofs.Marking.{Passed, Top}
use Rattle.report.proofs.under.places_under.Given as goal

abbrev pub invariant-loop-q : goal.invariant-loop-q
invariant-loop-q l = (l.q ≤ length (nodes l.codes l.lefts l.rights l.sizes)) × (length l.marks ≡ most_room)
    × Passed (nodes l.codes l.lefts l.rights l.sizes) (Top (nodes l.codes l.lefts l.rights l.sizes) l.initial.marks) l.q l.marks
