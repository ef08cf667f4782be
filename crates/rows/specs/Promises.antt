-- What the contracts come to in the walk's terms, for an input that passes the checks. Each is proved under its name in proofs/Matrices: masks-made,
-- rows-made, made-fine.
-- Assumes nothing.
use Rattle.std.specs.Prelude.{◌≡◌, Bool, true, List, ℕ, ◌≤◌, length, take}
use Rattle.walk.specs.Input.{Input, Passes}
use Rattle.walk.specs.Kept.{Table}
use Rattle.masks.specs.Masks.{MasksAnswer}
use Rattle.rows.specs.Rows.{RowsAnswer}
use Rattle.rows.specs.Formulas.{Makes, made, Fine, Stored, Masks}

-- the masks are written
abbrev pub MasksMade : Type 0
MasksMade = (i : Input) → Passes i → (old new : List ℕ) (b : Bool) → i.recording.sessions ≤ length old → MasksAnswer i.recording.sessions i.recording.lengths old new b
    → (b ≡ true) × Masks i new

-- the rows written are the candidate's matrix
abbrev pub RowsMade : Type 0
RowsMade = (i : Input) → Passes i → (k : Table) (masks matrices old new : List ℕ) → Masks i masks → Stored i k matrices → i.recording.sessions ≤ length old
    → (code left right : ℕ) (c : Makes i.recording.propositions (length k) code left right) (b : Bool)
    → RowsAnswer i.recording.sessions i.recording.propositions masks i.recording.words matrices code left right old new b
    → (b ≡ true) × (length new ≡ length old) × (take i.recording.sessions new ≡ made i k c)

-- a candidate's matrix has a well-formed word for each session
abbrev pub MadeFine : Type 0
MadeFine = (i : Input) → Passes i → (k : Table) (m kept code left right : ℕ) (c : Makes m kept code left right) → m ≤ i.recording.propositions → Fine i (made i k c)
