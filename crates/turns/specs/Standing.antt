-- Request E7: the state of a walk that is cut before a candidate or has ended, and what the lent slices hold by then.
-- Assumes nothing.
use Rattle.std.specs.Prelude.{◌≡◌, List, map, ℕ, ◌+◌, ◌-◌, ◌*◌, ◌≤◌, ◌<◌, length, drop, get_or}
use Rattle.formula.specs.declared.kinds.Node.{Node}
use Rattle.formula.specs.Nodes as nodes
use Rattle.walk.specs.Walk.{found, none, full, Tally, layer}
use Rattle.walk.specs.Input.{Input, offer}
use Rattle.walk.specs.Cut.{Cut, more, over}
use Rattle.walk.specs.Kept.{Table}
use Rattle.split.specs.declared.Cursor.{Cursor}
use Rattle.order.specs.Size.{Layer, layer_of}
use Rattle.order.specs.Ahead.{ahead, rest, first, leaf_cursor, cursor_after}
use Rattle.starts.specs.Starts.{starts_of}
use Rattle.rows.specs.Formulas.{no_candidate, matrix_at, Fine}
use Rattle.table.specs.Slices.{Cols, table_over}
use Rattle.counting.specs.declared.Counts.{Counts}
use Rattle.state.specs.declared.State.{State}
use Rattle.state.specs.declared.End.{End}
use Rattle.turns.specs.Costs.{per_size, in_all}
use Rattle.formula.specs.Kinds.{no_node}

-- ---- the state of a cut walk

abbrev pub kind_node : nodes.Node → Node
kind_node n = record { code = n.code; left = record { 0 = n.left }; right = record { 0 = n.right }; size = n.size }

-- the counts of the walk, with what is kept and its tally
abbrev pub counts : Table → Tally → Counts
counts k n = record { tried = n.tried; kept = length k; dropped = n.dropped }

-- where the sizes of the kept formulas begin
abbrev pub starts_in : Table → List ℕ
starts_in k = starts_of (map (λ c. c.node.size) k) (length k)

abbrev pub layer_at : Input → ℕ → List ℕ → Layer
layer_at i s starts = layer_of s starts i.recording.propositions i.constants i.unary i.binary

-- more to try: the size, the cursor after so many of its candidates, and the counts; or the end
abbrev pub state_at : Input → Cut (List ℕ) → State
state_at i (more s j k n) = record { size = s; at = cursor_after (layer_at i s (starts_in k)) j; counts = counts k n; end = End.More; root = no_node }
state_at i (over (found root) k n) = record { size = root.size; at = leaf_cursor 0; counts = counts k n; end = End.Found; root = kind_node root }
state_at i (over none k n) = record { size = i.bound; at = leaf_cursor 0; counts = counts k n; end = End.None; root = no_node }
state_at i (over (full s) k n) = record { size = s; at = leaf_cursor 0; counts = counts k n; end = End.Full; root = no_node }

-- ---- state and room stand at a cut of the walk

abbrev pub kept_in : Cut (List ℕ) → Table
kept_in (more s j k n) = k
kept_in (over e k n) = k

-- the size of the formula at a place
abbrev pub size_at : Table → ℕ → ℕ
size_at k p = (get_or k p no_candidate).node.size

-- how many can still be tried, each later size counted as the largest can be
abbrev pub todo : Input → List ℕ → ℕ → Cursor → ℕ
todo i starts s at = (per_size + 1) * (i.bound - s) + length (rest (layer_at i s starts) at)

-- what goes with a walk that has more to try: its size is one of the bound's, the table fits and is well formed, in kept order by size, a candidate is
-- next, those that come after are ahead of the cursor, no more than the candidates of all sizes were tried, and no more dropped
pub record Ongoing (i : Input) (s j : ℕ) (k : Table) (n : Tally) : Type 0 where
  pub size_in : (1 ≤ s) × (s ≤ i.bound)
  pub few : length k ≤ i.room
  pub fine : (p : ℕ) → p < length k → Fine i (matrix_at k p)
  pub rising : (p q : ℕ) → p ≤ q → q < length k → size_at k p ≤ size_at k q
  pub small : (p : ℕ) → p < length k → size_at k p ≤ s
  pub next : j < length (layer (offer i) s k)
  pub left : ahead (layer_at i s (starts_in k)) (cursor_after (layer_at i s (starts_in k)) j) ≡ drop j (ahead (layer_at i s (starts_in k)) (first (starts_in k) s))
  pub tried : n.tried + todo i (starts_in k) s (cursor_after (layer_at i s (starts_in k)) j) ≤ in_all
  pub dropped : n.dropped ≤ n.tried

abbrev pub Sound : Input → Cut (List ℕ) → Type 0
Sound i (more s j k n) = Ongoing i s j k n
Sound i (over e k n) = Unit {0}

-- the slices, which held t₀ when nothing was tried, hold just what is kept by then
pub record StandsIn (i : Input) (t₀ : Cols) (c : Cut (List ℕ)) (state : State) (t : Cols) : Type 0 where
  pub is : state ≡ state_at i c
  pub holds : t ≡ table_over (kept_in c) t₀
  pub sound : Sound i c
