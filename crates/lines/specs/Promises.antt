-- What the bench's lines mean, whatever the file: the mission's demand 3 of the text that a person sees, in terms of the reading. Proved in
-- proofs/Promises: lines-mean.
-- Assumes nothing.
use Rattle.std.specs.Prelude.{◌≡◌, List, ◌++◌, ℕ, ◌+◌, ◌≤◌, ◌<◌, length, take, get_or}
use Rattle.rules.specs.Limits.{most_room, Outside}
use Rattle.reading.specs.Reading.{bad}
use Rattle.file.specs.Format.{Parts, Good, GoodFile, file_bytes}
use Rattle.file.specs.Offence.{whole_file}
use Rattle.formula.specs.Formula.{Formula, size, Separates, Offered}
use Rattle.formula.specs.Recorded.{marked_traces}
use Rattle.formula.specs.Nodes.{Node, Spells, codes}
use Rattle.walk.specs.Walk.{Ending, found, none, full, trail}
use Rattle.walk.specs.Input.{Input, language, separating, offer}
use Rattle.walk.specs.Kept.{Table, table_nodes}
use Rattle.walk.specs.Promises.{NoneBelow, Kept, Full, DecidedAt, deciding}
use Rattle.text.specs.Text.{text}
use Rattle.line.specs.Line.{found_line, none_line, full_line, broken_line, refused_line}
use Rattle.writing.specs.Writing.{newline}
use Rattle.lines.specs.Bench.{file_input, LinesOf}

-- the counts of a line: the formulas kept, none of which separates and no two alike, the position of the candidate that ended the walk, and "tried
-- equals kept plus dropped, plus one where FOUND or FULL ended the walk"
pub record LineCounts (i : Input) (e : Ending) (k : Table) (tried kept dropped : ℕ) : Type 0 where
  pub as_many : length k ≡ kept
  pub formulas : Kept i k
  pub position : DecidedAt (separating i) (trail (offer i) i.room i.bound) e k tried
  pub adds-up : tried ≡ kept + dropped + deciding e

-- what the lines for good parts and a room say is so:
-- `found`: the second line is the text of a formula that uses only what was offered, is of the size in the first line and within the bound, and
-- separates the sessions, and no smaller one over what was offered does;
-- `none`: no formula over what was offered that keeps to the bound separates;
-- `full`: the walk needs a place beyond the room, and no formula smaller than that size separates
pub data LinesMeant (p : Parts) (room : ℕ) (out : List ℕ) : Type 0 where
  is_found : (t : Formula) (root : Node) (k : Table) (tried kept dropped : ℕ) → out ≡ found_line (size t) tried kept dropped ++ (text p.names t ++ newline)
      → Offered (language (file_input p room)) t
      → size t ≤ p.bound
      → Separates (marked_traces (file_input p room).recording) t
      → NoneBelow (file_input p room) (size t)
      → Spells codes (table_nodes k) root t
      → LineCounts (file_input p room) (found root) k tried kept dropped
      → LinesMeant p room out
  is_none : (k : Table) (tried kept dropped : ℕ) → out ≡ none_line tried kept dropped → NoneBelow (file_input p room) (p.bound + 1)
      → LineCounts (file_input p room) none k tried kept dropped → LinesMeant p room out
  is-full : (s : ℕ) (k : Table) (tried kept dropped : ℕ) → out ≡ full_line s tried kept dropped → Full (file_input p room) s k
      → LineCounts (file_input p room) (full s) k tried kept dropped → LinesMeant p room out

-- of the bytes of good parts, and of any other file
pub record LinesShown (file : List ℕ) (room : ℕ) (out : List ℕ) : Type 0 where
  pub good : (p : Parts) → Good p → file_bytes p ≡ file → 1 ≤ room → room ≤ most_room → LinesMeant p room out
  pub outside : GoodFile file → Outside 1 most_room room → out ≡ refused_line 2
  pub broken : (GoodFile file → ⊥) → (o : ℕ) × (whole_file file ≡ bad o) × (out ≡ broken_line o)

-- whatever the bench prints for a file, a list of bytes, means what it says
abbrev pub LinesMean : Type 0
LinesMean = (file : List ℕ) → ((i : ℕ) → get_or file i 0 < 256) → (room : ℕ) (old : List ℕ) (r : ℕ) (new : List ℕ) → LinesOf file room old r new
    → LinesShown file room (take r new)
