-- What the loop of the search leaves, for every input, budget and state.
-- Assumes nothing.
use Rattle.std.specs.Prelude.{◌≡◌, List, ℕ, ◌+◌, ◌≤◌, length}
use Rattle.rules.specs.Limits.{most_propositions, most_size, most_room}
use Rattle.walk.specs.Input.{Input, Passes}
use Rattle.walk.specs.Cut.{Cut}
use Rattle.walk.specs.Kept.{go_on}
use Rattle.table.specs.Slices.{Cols}
use Rattle.checks.specs.Promises.{RoomThere}
use Rattle.state.specs.declared.State.{State}
use Rattle.state.specs.declared.End.{End}
use Rattle.state.specs.Row as row
use Rattle.turns.specs.Costs.{operators}
use Rattle.turns.specs.Standing.{StandsIn}

-- a state that 14 lets pass, by an input's numbers
abbrev pub StateIn : Input → State → Type 0
StateIn i st = row.StateIn i.recording.propositions i.bound i.room i.constants (length i.unary) (length i.binary) st

-- what the loop asks: numbers up to document 01's limits, no more operators of a group than there are, and a state that 14 lets pass
pub record LoopFits (m bound room constants unary binary : ℕ) (from : State) : Type 0 where
  pub bound-in : bound ≤ most_size
  pub room_in : room ≤ most_room
  pub propositions-in : m ≤ most_propositions
  pub unary-few : unary ≤ operators
  pub binary-few : binary ≤ operators
  pub state-in : row.StateIn m bound room constants unary binary from

abbrev pub GoAsks : Input → State → Type 0
GoAsks i from = LoopFits i.recording.propositions i.bound i.room i.constants (length i.unary) (length i.binary) from

-- it leaves a state that 14 lets pass, with at most `budget` more tried and kept; and from a state that stood at a cut of the walk and has not ended it goes
-- on by `budget` candidates; one that has ended stays, and nothing is written
pub record GoDoes (i : Input) (budget : ℕ) (from : State) (t t' : Cols) (state : State) : Type 0 where
  pub state-in : StateIn i state
  pub spends : state.counts.tried ≤ from.counts.tried + budget
  pub keeps : state.counts.kept ≤ from.counts.kept + budget
  pub ended : (from.end ≡ End.More → ⊥) → (state ≡ from) × (t' ≡ t)
  pub runs : (t₀ : Cols) (c : Cut (List ℕ)) → Passes i → RoomThere i t₀ → from.end ≡ End.More → StandsIn i t₀ c from t → StandsIn i t₀ (go_on i budget c) state t'

-- where it isn't given what it asks, the state comes back and nothing is written
pub record Gone (i : Input) (budget : ℕ) (from : State) (t t' : Cols) (state : State) : Type 0 where
  pub goes : GoAsks i from → GoDoes i budget from t t' state
  pub stays : (GoAsks i from → ⊥) → (state ≡ from) × (t' ≡ t)
