-- What becomes of one candidate, and what it leaves in the lent slices.
-- Assumes nothing.
use Rattle.std.specs.Prelude.{◌≡◌, ◌⊎◌, Bool, true, false, List, ℕ, ◌≤◌, ◌<◌, length, Some, None}
use Rattle.rules.specs.Limits.{most_room}
use Rattle.rules.specs.declared.kinds.Place.{Place}
use Rattle.formula.specs.declared.kinds.Node.{Node}
use Rattle.formula.specs.Kinds.{node_of}
use Rattle.walk.specs.Walk.{Candidate, Tally, going, kept, consider}
use Rattle.walk.specs.Input.{Input, Passes, offer}
use Rattle.walk.specs.Kept.{Table}
use Rattle.rows.specs.Rows.{RowsAnswer}
use Rattle.rows.specs.Formulas.{Makes, made, Masks}
use Rattle.comparison.specs.Compare.{KnownAnswer}
use Rattle.table.specs.Acceptance.{agreeing}
use Rattle.table.specs.Keep.{KeepAnswer}
use Rattle.table.specs.Slices.{Cols}
use Rattle.table.specs.Formulas.{HoldsKept, RoomAt}
use Rattle.counting.specs.declared.Fate.{Fate}
use Rattle.counting.specs.declared.Fate.TheVariants.{Found, Dropped, Full, Kept}
use Rattle.counting.specs.Counting.{comes}

-- a candidate over the table k: its node, and the matrix that its code and fields make
pub record Posed (i : Input) (k : Table) (node : Node) (x : Candidate (List ℕ)) : Type 0 where
  pub node-is : x.node ≡ node_of node
  pub makes : Makes i.recording.propositions (length k) node.code node.left.0 node.right.0
  pub matrix-is : made i k makes ≡ x.matrix

-- what is there to judge it by: the slices, which held t₀, hold the table k and have room for one more up to C, `masks` are those of the sessions, and
-- `rows` is room for its rows
pub record Over (i : Input) (masks : List ℕ) (node : Node) (count : ℕ) (rows : List ℕ) (t₀ t : Cols) (k : Table) (x : Candidate (List ℕ)) : Type 0 where
  pub passes : Passes i
  pub few : count ≤ i.room
  pub room : count < i.room → RoomAt i count t₀
  pub masks-are : Masks i masks
  pub rows-there : i.recording.sessions ≤ length rows
  pub holds : HoldsKept i k t₀ t
  pub counted : count ≡ length k
  pub posed : Posed i k node x

-- it comes to what the walk makes of it
pub record Does (i : Input) (node : Node) (t₀ t' : Cols) (k : Table) (x : Candidate (List ℕ)) (v : Fate) : Type 0 where
  pub is : (n : Tally) → consider (offer i) i.room (going k n) x ≡ comes v x k n
  pub holds : (n : Tally) → HoldsKept i (kept (comes v x k n)) t₀ t'

-- whatever it was handed: the tests in 01's order over the candidate's rows, each by its own contract. Only where it is kept is anything written to the table:
-- below C and below the most that any table has, as `keep` writes it
module _ (r room : ℕ) (marks : List ℕ) (node : Node) (count : ℕ) (rows : List ℕ) (t t' : Cols) where
  abbrev pub Tests : Fate → Type 0
  Tests Found = (agreeing r marks rows ≡ true) × (t' ≡ t)
  Tests Dropped = (agreeing r marks rows ≡ false) × ((p : Place) × KnownAnswer r t.matrices rows count (Some p)) × (t' ≡ t)
  Tests Full = (agreeing r marks rows ≡ false) × KnownAnswer r t.matrices rows count None × ((room ≤ count) ⊎ (most_room ≤ count)) × (t' ≡ t)
  Tests Kept = (agreeing r marks rows ≡ false) × KnownAnswer r t.matrices rows count None × (count < room) × (count < most_room)
      × ((done : Bool) × KeepAnswer r rows count (node_of node) t t' done)

-- its rows are made in `rows`, as `rows_of` makes them; then the tests
pub record Judged (r m room : ℕ) (marks words masks : List ℕ) (node : Node) (count : ℕ) (rows rows' : List ℕ) (t t' : Cols) (v : Fate) : Type 0 where
  pub filled : Bool
  pub made : RowsAnswer r m masks words t.matrices node.code node.left.0 node.right.0 rows rows' filled
  pub tests : Tests r room marks node count rows' t t' v
