-- `put` meets its contract: after i turns the first i nodes are the listed ones, and the rest are as they were.
use mathlib.Core.Path.{◌≡◌}
use lib.ListN.{length, take, drop}
use Rattle.faces.proofs.lists.put.Given as goal

abbrev pub invariant-loop-i : goal.invariant-loop-i
invariant-loop-i l = record {
  written : take l.i l.nodes ≡ take l.i l.list;
  rest : drop l.i l.nodes ≡ drop l.i l.initial.nodes;
}
