-- `copied` meets its contract: after i turns the first i nodes are the list's.
use mathlib.Core.Path.{◌≡◌}
use lib.ListN.{length, take}
use Rattle.nodes_in.specs.Arrays.{seen}
use Rattle.faces.proofs.lists.copied.Given as goal

abbrev pub invariant-loop-i : goal.invariant-loop-i
invariant-loop-i l = record { full : length l.list ≡ seen; same : take l.i l.list ≡ take l.i l.nodes }
