-- `pack` meets its contract: after i turns the first i nodes have the lists' fields.
use mathlib.Core.Path.{◌≡◌}
use lib.ListN.{length}
use Rattle.nodes_out.specs.Arrays.{room}
use Rattle.nodes_in.specs.Arrays.{FieldsFilled}
use Rattle.nodes_out.proofs.pack.Given as goal

abbrev pub invariant-loop-i : goal.invariant-loop-i
invariant-loop-i l = (length l.list ≡ room) × FieldsFilled l.list l.i l.codes l.lefts l.rights l.sizes
