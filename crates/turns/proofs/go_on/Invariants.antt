-- `go_on` meets its contract: from where a turn begins the walk comes to what it comes to from the state on.
use mathlib.Core.Path.{◌≡◌}
use lib.ListN.{length}
use Rattle.walk.specs.Input.{input_of}
use Rattle.table.specs.Slices.{cols}
use Rattle.turns.specs.Inner.{Masked}
use Rattle.turns.proofs.Taken.{Turning}
use Rattle.turns.proofs.go_on.Given as goal

abbrev pub invariant-loop-state : goal.invariant-loop-state
invariant-loop-state l = (length l.rows ≡ 32)
    × Masked l.r l.lengths l.masks
    × Turning (input_of l.r l.m l.bound l.room l.constants l.marks l.lengths l.words l.unary l.binary) l.budget l.initial.state
    (cols l.initial.codes l.initial.lefts l.initial.rights l.initial.sizes l.initial.matrices) (cols l.codes l.lefts l.rights l.sizes l.matrices) l.starts l.state l.left

abbrev pub decreases-loop-state : goal.decreases-loop-state
decreases-loop-state l = l.left
