-- What `explain` writes for a file, for every byte string.
-- Assumes nothing.
use Rattle.std.specs.Prelude.{◌≡◌, List, ℕ}
use Rattle.reading.specs.Reading.{Got, got, bad}
use Rattle.file.specs.Format.{Parts}
use Rattle.file.specs.Offence.{whole_file}
use Rattle.formula.specs.Nodes.{Node}
use Rattle.walk.specs.Walk.{Tally, found, ended}
use Rattle.walk.specs.Input.{Input, search}
use Rattle.walk.specs.Kept.{Table, table_nodes}
use Rattle.writing.specs.Writing.{Wrote}
use Rattle.lines.specs.Bench.{bench_room, file_input, Says}
use Rattle.report.specs.Lines.{ReportText}

-- the search over this input finds a formula: its root, and the table that is kept
abbrev pub Finds : Input → Node → Table → Type 0
Finds i root k = (n : Tally) × (search i ≡ ended (found root) k n)

-- where a formula is found its whole output is the report, else the bench's first line (docs/DECISIONS.md): what the bench says where none is found is that line alone
pub record Explained (i : Input) (bench : List ℕ → Type 0) (out : List ℕ) : Type 0 where
  pub report : (root : Node) (k : Table) → Finds i root k → ReportText i.recording (table_nodes k) root out
  pub else : ((root : Node) (k : Table) → Finds i root k → ⊥) → bench out

-- a broken file has the bench's line
abbrev pub Explains : Got Parts → List ℕ → Type 0
Explains (bad o) out = Says (bad o) bench_room out
Explains (got p next) out = Explained (file_input p bench_room) (Says (got p next) bench_room) out

-- the output stands at the start of the text, as far as there is room, and the rest of it stays
pub record ExplanationOf (file old : List ℕ) (r : ℕ) (new : List ℕ) : Type 0 where
  pub output : List ℕ
  pub explains : Explains (whole_file file) output
  pub wrote : Wrote old 0 output new r
