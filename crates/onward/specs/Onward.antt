-- Onward from a state: the states that the loop answers, the sizes that are passed over, and a turn.
-- Assumes nothing.
use Rattle.std.specs.Prelude.{◌≡◌, cond, List, ℕ, ◌+◌, ◌≤◌, ◌<◌, eqb, ltb, Option, None, Some}
use Rattle.formula.specs.declared.kinds.Node.{Node}
use Rattle.formula.specs.Kinds.{no_node}
use Rattle.split.specs.declared.Cursor.{Cursor}
use Rattle.split.specs.declared.Candidate.{Candidate}
use Rattle.starts.specs.Starts.{starts_of}
use Rattle.order.specs.Size.{layer_of}
use Rattle.order.specs.Steps.{Steps}
use Rattle.order.specs.Ahead.{first, leaf_cursor}
use Rattle.counting.specs.declared.Fate.{Fate}
use Rattle.counting.specs.declared.Counts.{Counts}
use Rattle.counting.specs.Counting.{counted_by}
use Rattle.state.specs.declared.State.{State}
use Rattle.state.specs.declared.End.{End}
use Rattle.state.specs.Ends.{more_to_try, at_found}
use Rattle.onward.specs.declared.Seen.{Seen}
use Rattle.onward.specs.declared.Turn.{Turn}
use Rattle.onward.specs.declared.Turn.TheVariants.{Rests, Tries}

-- the state by value, before a candidate, and at the end: "After the last, NONE."
abbrev pub more_state : ℕ → Cursor → Counts → State
more_state s at n = record { size = s; at = at; counts = n; end = End.More; root = no_node }

abbrev pub end_state : ℕ → Counts → End → Node → State
end_state s n end root = record { size = s; at = leaf_cursor 0; counts = n; end = end; root = root }

abbrev pub none_state : ℕ → Counts → State
none_state s n = end_state s n End.None no_node

-- after a candidate: whether the walk goes on, and FOUND's root is the candidate
abbrev pub end_after : Fate → End
end_after Fate.Found = End.Found
end_after Fate.Dropped = End.More
end_after Fate.Full = End.Full
end_after Fate.Kept = End.More

abbrev pub root_at : End → Node → Node
root_at end node = cond (at_found end) node no_node

abbrev pub over_state : ℕ → Counts → Fate → Node → State
over_state s n v node = end_state s (counted_by v n) (end_after v) (root_at (end_after v) node)

abbrev pub after_state : ℕ → Counts → Cursor → Fate → Node → State
after_state s n next v node = cond (more_to_try (end_after v)) (more_state s next (counted_by v n)) (over_state s n v node)

-- before the first candidate of the size after that of a state
abbrev pub begin_state : List ℕ → State → State
begin_state starts st = more_state (st.size + 1) (first starts (st.size + 1)) st.counts

-- ---- a turn

-- a number of a smaller kind: one that the kind lacks, which no search has, is 0
abbrev pub up_to : ℕ → ℕ → ℕ
up_to most n = cond (ltb most n) 0 n

-- where the sizes begin
abbrev pub starts_at : List ℕ → ℕ → List ℕ
starts_at sizes kept = starts_of sizes (up_to 65535 kept)

-- over the ends of sizes: each passed one has no candidate left, and is not the last
pub data Over (m bound constants : ℕ) (sizes unary binary : List ℕ) (from : State) (starts : List ℕ) : State → List ℕ → Type 0 where
  here : Over m bound constants sizes unary binary from starts from starts
  on : {at : State} {begun : List ℕ} → Over m bound constants sizes unary binary from starts at begun
      → Steps (layer_of at.size begun m constants unary binary) at.at None → at.size < bound
      → Over m bound constants sizes unary binary from starts (begin_state (starts_at sizes at.counts.kept) at) (starts_at sizes at.counts.kept)

-- a walk that has ended stays; another stands at a candidate, or at the end of the last size
pub record Seeks (m bound constants : ℕ) (sizes unary binary : List ℕ) (from : State) (starts starts' : List ℕ) (seen : Seen) : Type 0 where
  pub stays : (from.end ≡ End.More → ⊥) → (seen ≡ record { state = from; step = None }) × (starts' ≡ starts)
  pub goes : from.end ≡ End.More → Over m bound constants sizes unary binary from starts seen.state starts'
  pub more : from.end ≡ End.More → seen.state.end ≡ End.More
  pub step_is : from.end ≡ End.More → Steps (layer_of seen.state.size starts' m constants unary binary) seen.state.at seen.step
  pub last : from.end ≡ End.More → seen.step ≡ None → bound ≤ seen.state.size
  pub size_in : from.size ≤ bound → seen.state.size ≤ bound

abbrev pub try_turn : State → Candidate → Turn
try_turn st c = Tries st (record { code = c.code; left = c.left; right = c.right; size = up_to 255 st.size }) c.next

abbrev pub step_turn : State → ℕ → Option Candidate → Turn
step_turn st left (Some c) = cond (eqb left 0) (Rests (more_state st.size st.at st.counts)) (try_turn st c)
step_turn st left None = Rests (none_state st.size st.counts)

abbrev pub turn_of : Seen → ℕ → Turn
turn_of seen left = cond (more_to_try seen.state.end) (step_turn seen.state left seen.step) (Rests seen.state)
