-- What the table's contracts come to in the walk's terms, for an input that passes the checks. Each is proved under its name in proofs/:
-- agrees-separating (Acceptance), held-is-stored and keep-grows (Kept).
-- Assumes nothing.
use Rattle.std.specs.Prelude.{◌≡◌, Bool, true, List, [], ◌∷◌, ◌++◌, ℕ, ◌≤◌, length, take}
use Rattle.walk.specs.Walk.{Candidate}
use Rattle.walk.specs.Input.{Input, Passes, separating}
use Rattle.walk.specs.Kept.{Table}
use Rattle.rows.specs.Formulas.{Fine, Stored}
use Rattle.table.specs.Slices.{Cols}
use Rattle.table.specs.Acceptance.{agreeing}
use Rattle.table.specs.Keep.{KeepAnswer}
use Rattle.table.specs.Formulas.{HoldsKept, RoomAt}

-- acceptance is the walk's
abbrev pub AgreesSeparating : Type 0
AgreesSeparating = (i : Input) → Passes i → (rows : List ℕ) → i.recording.sessions ≤ length rows
    → agreeing i.recording.sessions i.recording.marks rows ≡ separating i (take i.recording.sessions rows)

-- the slices that hold a table are those that store its matrices
abbrev pub HeldIsStored : Type 0
HeldIsStored = (i : Input) (k : Table) (t₀ t : Cols) → HoldsKept i k t₀ t → Stored i k t.matrices

-- a formula kept at the next place makes the table one longer
abbrev pub KeepGrows : Type 0
KeepGrows = (i : Input) → Passes i → (k : Table) (t₀ t t' : Cols) → HoldsKept i k t₀ t → RoomAt i (length k) t₀
    → (rows : List ℕ) (c : Candidate (List ℕ)) → i.recording.sessions ≤ length rows → take i.recording.sessions rows ≡ c.matrix → Fine i c.matrix
    → (b : Bool) → KeepAnswer i.recording.sessions rows (length k) c.node t t' b
    → (b ≡ true) × HoldsKept i (k ++ (c ∷ [])) t₀ t'
