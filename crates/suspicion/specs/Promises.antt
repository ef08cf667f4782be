-- What the lines for a typed formula mean, whatever is typed and whatever the file, in terms of the grammar and the reading. Proved in proofs/Promises:
-- suspicion-means.
-- Assumes nothing.
use Rattle.std.specs.Prelude.{◌≡◌, ◌⊎◌, List, ℕ, ◌^◌, ◌≤◌, ◌<◌, length, take, get_or}
use Rattle.rules.specs.Limits.{most_size}
use Rattle.reading.specs.Reading.{bad}
use Rattle.file.specs.Format.{Parts, Good, GoodFile, file_bytes}
use Rattle.file.specs.Offence.{whole_file}
use Rattle.formula.specs.Formula.{Formula, size, Separates}
use Rattle.formula.specs.Recorded.{marked_traces}
use Rattle.verdict.specs.Check.{FirstDisagrees}
use Rattle.text.specs.Tokens.{Named}
use Rattle.grammar.specs.Token.{Typed}
use Rattle.grammar.specs.Grammar.{Reads, IsFormula, Refused11}
use Rattle.grammar.specs.Naming.{typed}
use Rattle.reader.specs.Words.{most_bytes, FirstUnknown, Deep}
use Rattle.writing.specs.Writing.{most_digits}
use Rattle.line.specs.Line.{refused_line, separates_line, disagrees_line, refused_at_line}
use Rattle.suspicion.specs.Caret.{pointed_lines}
use Rattle.suspicion.specs.Suspicion.{recording_of, TypedLinesOf}

-- what is typed is this formula: the text has one tree by the grammar, which is the formula with the file's names, and no other formula has it
pub record IsTyped (names : List (List ℕ)) (text : List ℕ) (t : Formula) : Type 0 where
  pub named : Named (length names) t
  pub reads : Reads text (typed names t)
  pub one-tree : (u : Typed) → Reads text u → u ≡ typed names t
  pub one-formula : (u : Formula) → Named (length names) u → Reads text (typed names u) → u ≡ t

-- it answers whether the formula separates, or the first session that disagrees, or the refusal with its offset under a caret: of good parts,
-- `separates`: what is typed is a formula, and it separates the sessions;
-- `session N disagrees`: what is typed is a formula, session N has another mark than it gives, and every session before N agrees;
-- the caret with 11: the first byte that can't continue a formula; with 13: what is typed is a formula, and this is its first unknown name;
-- `refused 12`: it is too long, too large or nested too deep. There is no other answer
pub data TypedAnswer (p : Parts) (text out : List ℕ) : Type 0 where
  is-separates : (t : Formula) → out ≡ separates_line → IsTyped p.names text t → Separates (marked_traces (recording_of p)) t → TypedAnswer p text out
  is-disagrees : (t : Formula) (j : ℕ) → out ≡ disagrees_line j → IsTyped p.names text t → FirstDisagrees (recording_of p) t j → TypedAnswer p text out
  is-stops : (o : ℕ) → out ≡ pointed_lines text o 11 → Refused11 text o → TypedAnswer p text out
  is-unknown : (o : ℕ) → out ≡ pointed_lines text o 13 → IsFormula text → FirstUnknown p.names text o → TypedAnswer p text out
  is-large : out ≡ refused_line 12 → (most_bytes < length text) ⊎ ((u : Typed) × Reads text u × (most_size < size u)) ⊎ Deep text → TypedAnswer p text out

-- and no other answer has the line of a verdict: where such a line is all that is written, it is so. N has at most 20 digits
pub record TypedMeant (p : Parts) (text out : List ℕ) : Type 0 where
  pub answer : TypedAnswer p text out
  pub separates : out ≡ separates_line → (t : Formula) × IsTyped p.names text t × Separates (marked_traces (recording_of p)) t
  pub disagrees : (j : ℕ) → j < 10 ^ most_digits → out ≡ disagrees_line j → (t : Formula) × IsTyped p.names text t × FirstDisagrees (recording_of p) t j

-- of the bytes of good parts, and of any other file
pub record TypedShown (file text out : List ℕ) : Type 0 where
  pub good : (p : Parts) → Good p → file_bytes p ≡ file → TypedMeant p text out
  pub broken : (GoodFile file → ⊥) → (o : ℕ) × (whole_file file ≡ bad o) × (out ≡ refused_at_line 8 o)

-- so many bytes hold every answer
abbrev pub longest_answer : ℕ
longest_answer = 8248

-- whatever is written for a text and a file, a list of bytes, means what it says
abbrev pub SuspicionMeans : Type 0
SuspicionMeans = (text file : List ℕ) → ((i : ℕ) → get_or file i 0 < 256) → (old new : List ℕ) (r : ℕ) → longest_answer ≤ length old → TypedLinesOf text file old new r
    → TypedShown file text (take r new)
