-- The numbers that the loop asks for: where all but the state's are in range, the state decides.
-- Assumes nothing.
use mathlib.Core.Path.{◌≡◌, refl}
use mathlib.Core.Bool.{Bool, true, false, not}
use Prim.Native.Nat.{ℕ, zero, suc, ◌≤◌}
use native.Mathlib.Omega.{arith}
use Rattle.rules.specs.Limits.{most_propositions, most_size, most_room}
use Rattle.state.specs.declared.State.{State}
use Rattle.state.specs.Row.{state_wrong}
use Rattle.rules.specs.Answers.{Tested}
use Rattle.state.proofs.Passing.{passes-in, in-passes}
use Rattle.turns.specs.Costs.{operators}
use Rattle.turns.specs.Turns.{LoopFits}

pub state-tells : (m bound room constants unary binary : ℕ) (from : State) → bound ≤ most_size → room ≤ most_room → m ≤ most_propositions → unary ≤ operators → binary ≤ operators
    → (b : Bool) → Tested (state_wrong m bound room constants unary binary from).given b → Tested (LoopFits m bound room constants unary binary from) (not b)
state-tells m bound room constants unary binary from p q r u v true w = λ f. in-passes f.state-in w
state-tells m bound room constants unary binary from p q r u v false w =
    record { bound-in = p; room_in = q; propositions-in = r; unary-few = u; binary-few = v; state-in = passes-in w }

-- a number that isn't 0 is at least 1
pub pos-of-ne : (n : ℕ) → (n ≡ 0 → ⊥) → 1 ≤ n
pos-of-ne zero h = absurd (h refl)
pos-of-ne (suc n) h = omega arith
