-- `front` meets its contract: each return is a law of `Fronts`. It falls by the bytes that are left.
use lib.ListN.{length}
use Prim.Native.Nat.{◌-◌}
use Rattle.operand.proofs.+front.Given as goal

abbrev pub decreases-front : goal.decreases-front
decreases-front l = length l.text.now - l.at
