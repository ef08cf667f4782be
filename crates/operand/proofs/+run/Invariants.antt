-- `run` meets its contract: each return is a law of `Fronts`. It falls by what is left of 16 bytes.
use Prim.Native.Nat.{◌+◌, ◌-◌}
use Rattle.operand.proofs.+run.Given as goal

abbrev pub decreases-run : goal.decreases-run
decreases-run l = (l.start + 16) - l.i
