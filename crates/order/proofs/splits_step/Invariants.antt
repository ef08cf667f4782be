-- `splits_step` meets its contract: `here` stands in split i, and as much is ahead of it as of the cursor.
use mathlib.Core.Path.{◌≡◌}
use Prim.Native.Nat.{ℕ}
use Rattle.order.specs.Size.{layer_of}
use Rattle.order.specs.Ahead.{parts_ahead}
use Rattle.order.proofs.splits_step.Given as goal

abbrev pub invariant-loop-i : goal.invariant-loop-i
invariant-loop-i l =
    (l.here.split ≡ l.i)
    × ((m constants : ℕ) → parts_ahead (layer_of l.s l.starts m constants l.unary l.binary) l.fn.at ≡ parts_ahead (layer_of l.s l.starts m constants l.unary l.binary) l.here)
