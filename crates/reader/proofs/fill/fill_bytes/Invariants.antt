-- `fill_bytes` meets its contract: node by node.
use mathlib.Core.Path.{◌≡◌}
use mathlib.Core.List.{map}
use Prim.Native.Nat.{◌/◌, ◌%◌}
use lib.ListN.{take}
use lib.Seq.{sets}
use Rattle.reader.proofs.fill.fill_bytes.Given as goal

abbrev pub invariant-loop-i : goal.invariant-loop-i
invariant-loop-i l = l.to ≡ sets l.initial.to 0 (map (λ e. e / l.unit % 256) (take l.i l.scratch))
