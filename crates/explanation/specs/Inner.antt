-- How private functions speak of what they are handed and what they write. No public contract cites this file, so nothing here has to be believed.
-- Assumes nothing.
use Rattle.std.specs.Prelude.{◌≡◌, List, ℕ}
use Rattle.session.specs.Recording.{Recording}
use Rattle.file.specs.Format.{Parts, Good}
use Rattle.file.specs.Offence.{whole_file}
use Rattle.formula.specs.Nodes.{Node}
use Rattle.walk.specs.Input.{Input}
use Rattle.writing.specs.Writing.{Wrote}
use Rattle.lines.specs.Bench.{bench_room, file_input, Says}
use Rattle.report.specs.Lines.{ReportText}
use Rattle.explanation.specs.Explanation.{Explained}

-- a list of which something holds is written from the start of the text on
pub record Stands (says : List ℕ → Type 0) (old : List ℕ) (r : ℕ) (new : List ℕ) : Type 0 where
  pub output : List ℕ
  pub said : says output
  pub wrote : Wrote old 0 output new r

-- the input is a good file's
abbrev pub OfGood : Input → Type 0
OfGood i = (p : Parts) × Good p × (i ≡ file_input p bench_room)

abbrev pub BenchSays : List ℕ → List ℕ → Type 0
BenchSays file = Says (whole_file file) bench_room

abbrev pub ToldOf : List ℕ → Input → List ℕ → Type 0
ToldOf file i = Explained i (BenchSays file)

abbrev pub ReportOf : Recording → List Node → Node → List ℕ → Type 0
ReportOf i k root = ReportText i k root
