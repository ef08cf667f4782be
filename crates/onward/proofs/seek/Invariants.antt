-- `seek` meets its contract: each size that is passed over has ended, and is below the bound.
use Prim.Native.Nat.{◌-◌}
use Rattle.onward.proofs.Seeking.{Seeking}
use Rattle.onward.proofs.seek.Given as goal

abbrev pub invariant-loop-step : goal.invariant-loop-step
invariant-loop-step l = Seeking l.propositions l.bound l.constants l.sizes l.unary l.binary l.initial.state l.initial.starts l.state l.starts

abbrev pub decreases-loop-step : goal.decreases-loop-step
decreases-loop-step l = l.bound - l.state.size
