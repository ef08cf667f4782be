-- A text judged: what is answered for every names section, text and scratch.
-- Assumes nothing.
use Rattle.std.specs.Prelude.{◌≡◌, ◌⊎◌, List, Result, Ok, Err, ℕ, ◌≤◌, ◌<◌, length}
use Rattle.rules.specs.Limits.{most_size}
use Rattle.formula.specs.Formula.{size}
use Rattle.reading.specs.Reading.{bad}
use Rattle.names.specs.Names.{whole_names, names_in, GoodNames}
use Rattle.grammar.specs.Token.{Typed}
use Rattle.grammar.specs.Grammar.{Reads, Refused11}
use Rattle.descent.specs.declared.judge.JudgeError.{JudgeError}
use Rattle.descent.specs.declared.judge.JudgeError.TheVariants.{Broken as BrokenNames, Long, Room as NoRoom, Stops as StopsAt, Unknown as UnknownName, Large}
use Rattle.descent.specs.Words.{most_bytes, UnknownAt, FirstUnknown, Deep}
use Rattle.descent.specs.Packed.{NodesWritten}

-- no name of the text is unknown
abbrev pub AllKnown : List ℕ → List ℕ → Type 0
AllKnown file text = (k : ℕ) → UnknownAt (names_in file) text k → ⊥

-- the text as it is judged, up to the first refusal
module _ (file text old new : List ℕ) where
  abbrev pub JudgedIs : Result ℕ JudgeError → Type 0
  JudgedIs (Err (BrokenNames o)) = whole_names file ≡ bad o
  JudgedIs (Err Long) = (most_bytes < length text) × GoodNames file
  JudgedIs (Err NoRoom) = (length text ≤ most_bytes) × (length old < length text) × GoodNames file
  JudgedIs (Err (StopsAt k)) = (length text ≤ most_bytes) × Refused11 text k × GoodNames file
  JudgedIs (Err (UnknownName k)) = (length text ≤ most_bytes) × (t : Typed) × Reads text t × FirstUnknown (names_in file) text k × GoodNames file
  JudgedIs (Err Large) = (length text ≤ most_bytes) × (t : Typed) × Reads text t × AllKnown file text × ((most_size < size t) ⊎ Deep text) × GoodNames file
  JudgedIs (Ok n) =
      (length text ≤ most_bytes) × (t : Typed) × Reads text t × AllKnown file text × (size t ≤ most_size) × (Deep text → ⊥) × (size t ≡ n)
      × NodesWritten file 0 t old new × GoodNames file
