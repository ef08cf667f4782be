-- What the bench writes for a file, for every byte string and every room.
-- Assumes nothing.
use Rattle.std.specs.Prelude.{◌≡◌, List, ◌++◌, ℕ, ◌≤◌, length}
use Rattle.rules.specs.Limits.{most_room, Outside}
use Rattle.file.specs.Format.{Parts}
use Rattle.reading.specs.Reading.{Got, got, bad}
use Rattle.file.specs.Offence.{whole_file}
use Rattle.file.specs.Reading.{marks_of, lengths_of, words_of}
use Rattle.rules.specs.Answers.{over}
use Rattle.formula.specs.Formula.{Formula}
use Rattle.formula.specs.Nodes.{Spells, codes}
use Rattle.walk.specs.Walk.{Ending, found, none, full, Tally, ended}
use Rattle.walk.specs.Input.{Input, search}
use Rattle.walk.specs.Kept.{Table, table_nodes}
use Rattle.text.specs.Text.{text}
use Rattle.walk.specs.Input as walking
use Rattle.line.specs.Line.{found_line, none_line, full_line, broken_line, refused_line}
use Rattle.writing.specs.Writing.{newline}

-- "searches with C = 200"
abbrev pub bench_room : ℕ
bench_room = 200

-- room for whatever the lines say
abbrev pub longest_lines : ℕ
longest_lines = 512

-- a file's parts, and a room, as the input of a search
abbrev pub file_input : Parts → ℕ → Input
file_input p room =
    walking.input_of (length p.sessions) (length p.names) p.bound room p.constants (marks_of p) (lengths_of p) (words_of p) p.unary p.binary

-- the lines of a walk's end, with the table k and the tally n; a formula found has its text in a line of its own
abbrev pub EndSays : List (List ℕ) → Ending → Table → Tally → List ℕ → Type 0
EndSays names (found root) k n out =
    (t : Formula) × Spells codes (table_nodes k) root t × (out ≡ found_line root.size n.tried (length k) n.dropped ++ (text names t ++ newline))
EndSays names none k n out = out ≡ none_line n.tried (length k) n.dropped
EndSays names (full s) k n out = out ≡ full_line s n.tried (length k) n.dropped

-- a good file: the lines of the walk over its parts; "2: .. C .. wrong" where the room is none
pub record GoodSays (p : Parts) (room : ℕ) (out : List ℕ) : Type 0 where
  pub searched : 1 ≤ room → room ≤ most_room
      → (e : Ending) × (k : Table) × (n : Tally) × (search (file_input p room) ≡ ended e k n) × EndSays p.names e k n out
  pub outside : Outside 1 most_room room → out ≡ refused_line 2

-- a broken file: the offset of its first offending byte
abbrev pub Says : Got Parts → ℕ → List ℕ → Type 0
Says (bad o) room out = out ≡ broken_line o
Says (got p next) room out = GoodSays p room out

-- the lines stand at the start of the text, the rest of it stays, and their length is answered
pub record LinesOf (file : List ℕ) (room : ℕ) (old : List ℕ) (r : ℕ) (new : List ℕ) : Type 0 where
  pub lines : List ℕ
  pub says : Says (whole_file file) room lines
  pub long : r ≡ length lines
  pub holds : new ≡ over lines old
