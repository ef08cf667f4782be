-- Request E7, "Search in slices between screen updates": a fresh state, what it is that state and room stand at count n of the walk, the answer that a state tells, and the
-- refusals.
-- Assumes nothing.
use Rattle.std.specs.Prelude.{List, [], ◌∷◌, ◌++◌, ℕ, ◌<◌, length}
use Rattle.rules.specs.Limits.{most_budget}
use Rattle.rules.specs.Refusals.{Row}
use Rattle.rules.specs.Answers.{Said}
use Rattle.session.specs.Data.{outside_numbers, too_short, too_long, bit_above, mark_wrong}
use Rattle.formula.specs.Kinds.{node_of, no_node}
use Rattle.walk.specs.Input.{Input}
use Rattle.walk.specs.Cut.{Cut, more, over}
use Rattle.walk.specs.Kept.{begun, go_on}
use Rattle.order.specs.Ahead.{leaf_cursor}
use Rattle.checks.specs.Refusals.{setting_wrong, no_room, code_wrong, search_rows}
use Rattle.counting.specs.declared.Counts.{Counts}
use Rattle.table.specs.Slices.{Cols}
use Rattle.state.specs.declared.State.{State}
use Rattle.state.specs.declared.End.{End}
use Rattle.state.specs.Row as row
use Rattle.turns.specs.Standing.{StandsIn}
use Rattle.slices.specs.Said.{counts, found_said, none_said, full_said, end_said}

-- ---- the state

-- "or a fresh one": nothing is tried
abbrev pub fresh_state : State
fresh_state = record { size = 1; at = leaf_cursor 0; counts = record { tried = 0; kept = 0; dropped = 0 }; end = End.More; root = no_node }

-- ---- the answer, told by the state: "It answers MORE until the walk ends"; its case is 4

abbrev pub more_said : Counts → Said
more_said n = record { number = 0; values = 4 ∷ n.tried ∷ n.kept ∷ n.dropped ∷ [] }

-- what a state says by its end
abbrev pub said_at : End → State → Said
said_at End.More st = more_said st.counts
said_at End.Found st = found_said (node_of st.root) st.counts
said_at End.None st = none_said st.counts
said_at End.Full st = full_said st.size st.counts
said_at (End.Other n) st = more_said st.counts

abbrev pub state_said : State → Said
state_said st = said_at st.end st

abbrev pub cut_said : Cut (List ℕ) → Said
cut_said (more s j k n) = more_said (counts k n)
cut_said (over e k n) = end_said e (counts k n)

-- ---- state and room stand at count n of the walk

abbrev pub StandsAt : Input → Cols → ℕ → State → Cols → Type 0
StandsAt i t₀ n state t = StandsIn i t₀ (go_on i n (begun i)) state t

-- ---- the refusals

-- "a budget of 0 to 1,000,000 candidates (more is 2)"
abbrev pub budget_wrong : ℕ → Row
budget_wrong budget = record { number = 2; given = most_budget < budget }

-- "Last, 14 refuses a state with kept above C or tried, a size outside 1 to B, a place above kept or an operator position above its list's length": by the
-- input's numbers
abbrev pub state_wrong : Input → State → Row
state_wrong i st = row.state_wrong i.recording.propositions i.bound i.room i.constants (length i.unary) (length i.binary) st

-- every call tests all input anew: 1, 2, 3, 4, 5, 6, 7, 14. A caller that is lent a slice more has a row of number 3 of its own
abbrev pub resume_rows_with : List Row → Input → Cols → ℕ → State → List Row
resume_rows_with own i t budget st =
    outside_numbers i.recording.sessions i.recording.propositions
    ∷ setting_wrong i
    ∷ budget_wrong budget
    ∷ (own
    ++ (too_short i.recording
    ∷ no_room i t
    ∷ too_long i.recording
    ∷ bit_above i.recording
    ∷ mark_wrong i.recording
    ∷ code_wrong i
    ∷ state_wrong i st
    ∷ []))

abbrev pub resume_rows : Input → Cols → ℕ → State → List Row
resume_rows i t budget st = resume_rows_with [] i t budget st

-- where any budget is taken: the search's rows, then 14
abbrev pub advance_rows : Input → Cols → State → List Row
advance_rows i t st = search_rows i t ++ (state_wrong i st ∷ [])
