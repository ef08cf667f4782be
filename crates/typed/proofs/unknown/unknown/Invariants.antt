-- `unknown` meets its contract: word by word.
use Prim.Native.Nat.{◌-◌}
use lib.ListN.{length}
use Rattle.names.specs.Lookup.{names_by}
use Rattle.typed.proofs.Unknowns.{Met}
use Rattle.typed.proofs.unknown.unknown.Given as goal

abbrev pub invariant-loop-i : goal.invariant-loop-i
invariant-loop-i l = Met (names_by l.names) l.text l.i

abbrev pub decreases-loop-i : goal.decreases-loop-i
decreases-loop-i l = length l.text - l.i
