-- What is promised of the search in slices, for states that calls handed out with room and input unaltered: request E7's sentences. Each is proved under its
-- name in proofs/Slicing: fresh-stands, call-stands, stands-unique, call-unique, tells-cut, grown-by-budget, budget-none, ends-in-time,
-- end-repeats, whole-by-turns, enough-turns; and for any state, made up or not: fresh-passes, left-passes, within-budget, call-goes.
-- Assumes nothing.
use Rattle.std.specs.Prelude.{◌≡◌, ◌⊎◌, List, [], ◌∷◌, ℕ, ◌+◌, ◌≤◌, ◌<◌, length, Ok}
use Rattle.walk.specs.Walk.{tried, kept}
use Rattle.walk.specs.Input.{Input, Passes, search}
use Rattle.walk.specs.Kept.{begun, go_on}
use Rattle.checks.specs.Promises.{RoomThere}
use Rattle.table.specs.Slices.{Cols, table_over}
use Rattle.state.specs.declared.State as value
use Rattle.turns.specs.Standing.{kept_in}
use Rattle.slices.specs.Said.{walk_said}
use Rattle.rules.specs.Limits.{most_budget}
use Rattle.slices.specs.Slices.{fresh_state, state_said, cut_said, more_said, StandsAt, state_wrong}
use Rattle.slices.specs.Resume.{Resumed, resumed_number, Called}

-- "or a fresh one": a fresh state stands at count 0, whatever the slices hold
abbrev pub FreshStands : Type 0
FreshStands = (i : Input) → Passes i → (t : Cols) → StandsAt i t 0 fresh_state t

-- every call keeps the relation: what stood at count n stands at n + budget
abbrev pub CallStands : Type 0
CallStands = (i : Input) (t₀ t : Cols) (budget n : ℕ) (state after : value.State) (t' : Cols) → RoomThere i t₀ → StandsAt i t₀ n state t
    → Called i t budget state (Ok after) t' → StandsAt i t₀ (n + budget) after t'

-- and it fixes the state and the slices: at a count there is one
abbrev pub StandsUnique : Type 0
StandsUnique = (i : Input) (t₀ : Cols) (n : ℕ) (a b : value.State) (t u : Cols) → StandsAt i t₀ n a t → StandsAt i t₀ n b u → (a ≡ b) × (t ≡ u)

-- so two answers that a call may give at a count of the walk are one, and so are the slices that it leaves
abbrev pub CallUnique : Type 0
CallUnique = (i : Input) (t₀ t : Cols) (budget n : ℕ) (state : value.State) (a b : Resumed) (t' u' : Cols) → RoomThere i t₀ → StandsAt i t₀ n state t
    → Called i t budget state a t' → Called i t budget state b u' → (a ≡ b) × (t' ≡ u')

-- the state tells the cut walk's answer, MORE or the end
abbrev pub TellsCut : Type 0
TellsCut = (i : Input) (t₀ : Cols) (n : ℕ) (state : value.State) (t : Cols) → StandsAt i t₀ n state t → state_said state ≡ cut_said (go_on i n (begun i))

-- "After a call with budget k the count tried has grown by exactly k or the walk has ended, and the lent room holds just what the walk has kept by then":
-- at count n of the walk either n are tried and the answer is MORE, or the answer is the whole walk's; and the slices hold just what is kept
abbrev pub GrownByBudget : Type 0
GrownByBudget = (i : Input) (t₀ : Cols) (n : ℕ) (state : value.State) (t : Cols) → StandsAt i t₀ n state t
    → (((state.counts.tried ≡ n) × (n < tried (search i)) × (state_said state ≡ more_said state.counts))
    ⊎ ((state_said state ≡ walk_said (search i)) × (tried (search i) ≤ n)))
    × (t ≡ table_over (kept_in (go_on i n (begun i))) t₀)

-- "Budget 0 returns the same state", and nothing is written
abbrev pub BudgetNone : Type 0
BudgetNone = (i : Input) (t₀ t : Cols) (n : ℕ) (state after : value.State) (t' : Cols) → RoomThere i t₀ → StandsAt i t₀ n state t
    → Called i t 0 state (Ok after) t' → (after ≡ state) × (t' ≡ t)

-- "A walk with no candidate left has ended, and the same call says so": once as many are spent as the walk tries, the answer is the whole walk's
abbrev pub EndsInTime : Type 0
EndsInTime = (i : Input) (t₀ : Cols) (n : ℕ) (state : value.State) (t : Cols) → StandsAt i t₀ n state t → tried (search i) ≤ n
    → state_said state ≡ walk_said (search i)

-- "A call after the end repeats it", for every budget
abbrev pub EndRepeats : Type 0
EndRepeats = (i : Input) (t₀ t : Cols) (budget n : ℕ) (state after : value.State) (t' : Cols) → RoomThere i t₀ → StandsAt i t₀ n state t → tried (search i) ≤ n
    → Called i t budget state (Ok after) t' → (after ≡ state) × (t' ≡ t)

-- ---- the search turn by turn: calls with these budgets, each from the state and the slices that the one before it left
pub data Turns (i : Input) : value.State → Cols → List ℕ → value.State → Cols → Type 0 where
  stop : (state : value.State) (t : Cols) → Turns i state t [] state t
  turn : (budget : ℕ) (rest : List ℕ) (state next last : value.State) (t t' u : Cols) → Called i t budget state (Ok next) t' → Turns i next t' rest last u
      → Turns i state t (budget ∷ rest) last u

-- the candidates of all turns
abbrev pub total : List ℕ → ℕ
total [] = 0
total (budget ∷ rest) = budget + total rest

-- no budget is 0
abbrev pub Each1 : List ℕ → Type 0
Each1 [] = Unit {0}
Each1 (budget ∷ rest) = (1 ≤ budget) × Each1 rest

-- "Any cutting ends as the whole search does": answer, counts, nodes and matrices. From a fresh state, once the turns' budgets come to as many candidates as
-- the walk tries, the answer is the whole walk's and the slices hold what it kept
abbrev pub WholeByTurns : Type 0
WholeByTurns = (i : Input) → Passes i → (t u : Cols) → RoomThere i t → (budgets : List ℕ) (last : value.State) → Turns i fresh_state t budgets last u
    → tried (search i) ≤ total budgets → (state_said last ≡ walk_said (search i)) × (u ≡ table_over (kept (search i)) t)

-- "with budget 1 or more each turn it ends within as many turns as the walk has candidates"
abbrev pub EnoughTurns : Type 0
EnoughTurns = (i : Input) → Passes i → (t u : Cols) → RoomThere i t → (budgets : List ℕ) (last : value.State) → Turns i fresh_state t budgets last u
    → Each1 budgets → tried (search i) ≤ length budgets → (state_said last ≡ walk_said (search i)) × (u ≡ table_over (kept (search i)) t)

-- ---- for every state and every room's contents, made up or altered: "only demand 1 holds"

-- a fresh state is not refused
abbrev pub FreshPasses : Type 0
FreshPasses = (i : Input) → Passes i → (state_wrong i fresh_state).given → ⊥

-- what a call leaves is a state that a next call may be given
abbrev pub LeftPasses : Type 0
LeftPasses = (i : Input) (t : Cols) (budget : ℕ) (state after : value.State) (t' : Cols) → Called i t budget state (Ok after) t' → (state_wrong i after).given → ⊥

-- and the counts tried and kept have grown by no more than its budget
abbrev pub WithinBudget : Type 0
WithinBudget = (i : Input) (t : Cols) (budget : ℕ) (state after : value.State) (t' : Cols) → Called i t budget state (Ok after) t'
    → (after.counts.tried ≤ state.counts.tried + budget) × (after.counts.kept ≤ state.counts.kept + budget)

-- where the input passes, the room is there, the budget is one and 14 lets the state pass, the call is not refused
abbrev pub CallGoes : Type 0
CallGoes = (i : Input) → Passes i → (t : Cols) → RoomThere i t → (budget : ℕ) → budget ≤ most_budget → (state : value.State) → ((state_wrong i state).given → ⊥)
    → (a : Resumed) (t' : Cols) → Called i t budget state a t' → resumed_number a ≡ 0
