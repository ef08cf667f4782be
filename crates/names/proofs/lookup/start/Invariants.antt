-- `start` meets its contract: one name on with each turn.
use Prim.Native.Nat.{min}
use mathlib.Core.Path.{◌≡◌}
use lib.ListN.{length}
use Rattle.names.specs.Lookup.{walk_end}
use Rattle.names.proofs.lookup.start.Given as goal

abbrev pub invariant-loop : goal.invariant-loop
invariant-loop l = l.at ≡ min (length l.section) (walk_end l.section l.counter 1)
