-- What is promised of the refusals of a search: they leave just the input that passes the walk's checks, and look at nothing beyond what is read. Each is
-- proved under its name in proofs/Passing: passes-whole, decided-same.
-- Assumes nothing.
use Rattle.std.specs.Prelude.{◌↔◌, ℕ, ◌*◌, ◌≤◌, length}
use Rattle.rules.specs.Refusals.{Decided}
use Rattle.walk.specs.Input.{Input, Passes}
use Rattle.walk.specs.Promises.{AgreeWhereRead}
use Rattle.table.specs.Slices.{Cols}
use Rattle.checks.specs.Refusals.{search_rows}

-- ---- the mission's "input that passes the checks"

-- the table's lent slices are no shorter than document 01's "C x r, C" ask
pub record RoomThere (i : Input) (t : Cols) : Type 0 where
  pub codes : i.room ≤ length t.codes
  pub lefts : i.room ≤ length t.lefts
  pub rights : i.room ≤ length t.rights
  pub sizes : i.room ≤ length t.sizes
  pub matrices : i.room * i.recording.sessions ≤ length t.matrices

-- no row is given exactly where the input passes the walk's checks and the lent slices have room
abbrev pub PassesWhole : Type 0
PassesWhole = (i : Input) (t : Cols) → Decided (search_rows i t) 0 ↔ (Passes i × RoomThere i t)

-- marks, lengths and words are as long as they are read
pub record DataThere (i : Input) : Type 0 where
  pub marks : i.recording.sessions ≤ length i.recording.marks
  pub lengths : i.recording.sessions ≤ length i.recording.lengths
  pub words : i.recording.propositions * i.recording.sessions ≤ length i.recording.words

-- what lies beyond is not looked at: inputs that agree where they are read are refused alike
abbrev pub DecidedSame : Type 0
DecidedSame = (i j : Input) → AgreeWhereRead i j → DataThere i → DataThere j → (t : Cols) (n : ℕ) → Decided (search_rows i t) n → Decided (search_rows j t) n
