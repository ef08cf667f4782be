-- `operator` meets its contract: each return is a law of `Operators`. It falls by the bytes that are left.
use lib.ListN.{length}
use Prim.Native.Nat.{◌-◌}
use Rattle.tokens.proofs.operator.+operator.Given as goal

abbrev pub decreases-operator : goal.decreases-operator
decreases-operator l = length l.text.now - l.at
