-- What is written for a typed formula and a session file, for every two byte strings.
-- Assumes nothing.
use Rattle.std.specs.Prelude.{◌≡◌, List, Result, Ok, Err, ℕ, ◌-◌, length, take, replicate}
use Rattle.rules.specs.Limits.{most_size}
use Rattle.reading.specs.Reading.{Got, got, bad, section}
use Rattle.names.specs.Names.{name_bytes}
use Rattle.session.specs.Recording.{Recording, recording}
use Rattle.file.specs.Format.{Parts}
use Rattle.file.specs.Offence.{whole_file}
use Rattle.file.specs.Reading.{marks_of, lengths_of, words_of}
use Rattle.formula.specs.Nodes.{Node, node_at}
use Rattle.formula.specs.Kinds.{nodes}
use Rattle.verdict.specs.Check.{said_verdict, CheckAnswer}
use Rattle.verdict.specs.declared.Verdict.{Verdict}
use Rattle.verdict.specs.declared.Verdict.TheVariants.{Accepted, Disagrees}
use Rattle.rules.specs.declared.refusal.Refusal.{Refusal}
use Rattle.rules.specs.Refusals.{refusal_number}
use Rattle.reader.specs.declared.ParseError.{ParseError}
use Rattle.reader.specs.declared.ParseError.TheVariants.{Broken, Stops, Unknown, Refused}
use Rattle.reader.specs.Parsing.{Columns, columns, said_parsed, Parses}
use Rattle.writing.specs.Writing.{Wrote}
use Rattle.line.specs.Line.{refused_line, separates_line, disagrees_line, refused_at_line}
use Rattle.suspicion.specs.Caret.{pointed_lines}

-- a file's sessions
abbrev pub recording_of : Parts → Recording
recording_of p = recording (length p.sessions) (length p.names) (marks_of p) (lengths_of p) (words_of p)

-- room for any formula, and the first of the nodes that are written there
abbrev pub roomy : Columns
roomy = columns (replicate most_size 0) (replicate most_size 0) (replicate most_size 0) (replicate most_size 0)

abbrev pub first_nodes : ℕ → Columns → List Node
first_nodes n c = nodes (take n c.codes) (take n c.lefts) (take n c.rights) (take n c.sizes)

-- the line of what the check says
abbrev pub verdict_line : Result Verdict Refusal → List ℕ
verdict_line (Ok Accepted) = separates_line
verdict_line (Ok (Disagrees j)) = disagrees_line j.0
verdict_line (Err refusal) = refused_line (refusal_number refusal)

-- the lines of what the reader answers and leaves: of a formula that is read, what the check says of its nodes, "the root last"; of a refusal, what was
-- typed with a caret at the offset; 12 has none
abbrev pub Shows : Recording → List ℕ → Columns → Result ℕ ParseError → List ℕ → Type 0
Shows i typed c (Ok n) out =
    (v : Result Verdict Refusal) × CheckAnswer i (first_nodes n c) (node_at (first_nodes n c) (n - 1)) (said_verdict v) × (out ≡ verdict_line v)
Shows i typed c (Err (Broken o)) out = out ≡ refused_at_line 8 o
Shows i typed c (Err (Stops o)) out = out ≡ pointed_lines typed o 11
Shows i typed c (Err (Unknown o)) out = out ≡ pointed_lines typed o 13
Shows i typed c (Err (Refused refusal)) out = out ≡ refused_line (refusal_number refusal)

-- what is typed, read with the names of a names section and checked against sessions
pub record TypedSays (typed names : List ℕ) (i : Recording) (out : List ℕ) : Type 0 where
  pub answer : Result ℕ ParseError
  pub left : Columns
  pub parses : Parses names typed roomy left (said_parsed answer)
  pub shows : Shows i typed left answer out

-- a broken file is refused first: the names are the file's
abbrev pub FileSays : Got Parts → List ℕ → List ℕ → Type 0
FileSays (bad o) typed out = out ≡ refused_at_line 8 o
FileSays (got p next) typed out = TypedSays typed (section name_bytes p.names) (recording_of p) out

-- the lines stand at the start of the text, as far as there is room, and the rest of it stays
pub record TypedLinesOf (typed file old new : List ℕ) (r : ℕ) : Type 0 where
  pub lines : List ℕ
  pub says : FileSays (whole_file file) typed lines
  pub wrote : Wrote old 0 lines new r
