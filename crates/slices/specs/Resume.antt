-- What a call of the search in slices answers and leaves in the lent slices, for every input, budget and state.
-- Assumes nothing.
use Rattle.std.specs.Prelude.{◌≡◌, List, ℕ, ◌+◌, ◌≤◌, ◌<◌, Result, Ok, Err}
use Rattle.rules.specs.declared.refusal.Refusal.{Refusal}
use Rattle.rules.specs.Refusals.{Row, Decided, number_of, refusal_number}
use Rattle.walk.specs.Input.{Input}
use Rattle.checks.specs.Promises.{RoomThere}
use Rattle.table.specs.Slices.{Cols}
use Rattle.state.specs.declared.State.{State}
use Rattle.turns.specs.Turns.{StateIn}
use Rattle.slices.specs.Slices.{StandsAt, resume_rows, advance_rows}

-- the state after a call, which tells the answer; or a refusal
abbrev pub Resumed : Type 0
Resumed = Result State Refusal

abbrev pub resumed_number : Resumed → ℕ
resumed_number answer = number_of answer

-- whatever the state and the room hold, "only demand 1": the call leaves a state that a next call may be given; the count tried grows by at most `budget`
-- (one that has reached the largest number of its word stays), and so does the number kept. Where state and room stand at count n of the walk, they
-- stand at count n + budget after the call: this fixes state, answer and slices
pub record Went (i : Input) (t : Cols) (budget : ℕ) (state after : State) (t' : Cols) : Type 0 where
  pub passes : StateIn i after
  pub spends : after.counts.tried ≤ state.counts.tried + budget
  pub keeps : after.counts.kept ≤ state.counts.kept + budget
  pub runs : (t₀ : Cols) → RoomThere i t₀ → (n : ℕ) → StandsAt i t₀ n state t → StandsAt i t₀ (n + budget) after t'

-- a refusal "writes nothing"
abbrev pub CallOutcome : Input → Cols → ℕ → State → Resumed → Cols → Type 0
CallOutcome i t budget state (Ok after) t' = Went i t budget state after t'
CallOutcome i t budget state (Err refusal) t' = (0 < refusal_number refusal) × (t' ≡ t)

-- the number is that of the first of the rows that is given, 0 where none is
pub record CalledBy (rows : List Row) (i : Input) (t : Cols) (budget : ℕ) (state : State) (answer : Resumed) (t' : Cols) : Type 0 where
  pub decided : Decided rows (resumed_number answer)
  pub outcome : CallOutcome i t budget state answer t'

-- a call with a budget of at most 1,000,000
abbrev pub Called : Input → Cols → ℕ → State → Resumed → Cols → Type 0
Called i t budget state answer t' = CalledBy (resume_rows i t budget state) i t budget state answer t'

-- and with any
abbrev pub Advanced : Input → Cols → ℕ → State → Resumed → Cols → Type 0
Advanced i t budget state answer t' = CalledBy (advance_rows i t state) i t budget state answer t'
