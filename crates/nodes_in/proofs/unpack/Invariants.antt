-- `unpack` meets its contract: after i turns the first i fields are the nodes'.
use Rattle.nodes_in.specs.Arrays.{FieldsFilled}
use Rattle.nodes_in.proofs.unpack.Given as goal

abbrev pub invariant-loop-i : goal.invariant-loop-i
invariant-loop-i l = FieldsFilled l.list l.i l.codes l.lefts l.rights l.sizes
