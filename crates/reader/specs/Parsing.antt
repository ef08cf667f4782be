-- Reading a formula from text: what it answers and leaves in the lent slices, for every byte string.
-- Assumes nothing.
use Rattle.std.specs.Prelude.{◌≡◌, ◌⊎◌, List, [], ◌∷◌, map, Result, Ok, Err, ℕ, ◌<◌, length}
use Rattle.rules.specs.Limits.{most_size}
use Rattle.rules.specs.Answers.{Said, over}
use Rattle.rules.specs.Refusals.{refusal_number}
use Rattle.formula.specs.Formula.{size, Formula}
use Rattle.formula.specs.Nodes.{Node, codes}
use Rattle.formula.specs.Kinds.{count_of}
use Rattle.reading.specs.Reading.{bad}
use Rattle.names.specs.Names.{whole_names, names_in}
use Rattle.text.specs.Tokens.{Named}
use Rattle.grammar.specs.Token.{Typed}
use Rattle.grammar.specs.Grammar.{Reads, Refused11}
use Rattle.grammar.specs.Naming.{typed}
use Rattle.grammar.specs.Nodes.{nodes_of}
use Rattle.rules.specs.declared.refusal.Refusal.TheVariants.{Large as TooLarge, Room as NoRoom}
use Rattle.descent.specs.declared.judge.JudgeError.{JudgeError}
use Rattle.descent.specs.declared.judge.JudgeError.TheVariants.{Broken as BrokenNames, Long, Room, Stops as StopsAt, Unknown as UnknownName, Large}
use Rattle.reader.specs.declared.ParseError.{ParseError}
use Rattle.reader.specs.declared.ParseError.TheVariants.{Broken, Stops, Unknown, Refused}
use Rattle.reader.specs.Words.{most_bytes, FirstUnknown, Deep}

-- the answer in document 01's terms: 0 with how many nodes were written, the root last; 8, 11 and 13 with the offset; or a number alone
abbrev pub said_parsed : Result ℕ ParseError → Said
said_parsed (Ok n) = record { number = 0; values = n ∷ [] }
said_parsed (Err (Broken o)) = record { number = 8; values = o ∷ [] }
said_parsed (Err (Stops o)) = record { number = 11; values = o ∷ [] }
said_parsed (Err (Unknown o)) = record { number = 13; values = o ∷ [] }
said_parsed (Err (Refused refusal)) = record { number = refusal_number refusal; values = [] }

-- what is answered of a text that the judge refuses
abbrev pub refused_by : JudgeError → ParseError
refused_by (BrokenNames o) = Broken o
refused_by Long = Refused TooLarge
refused_by Room = Refused NoRoom
refused_by (StopsAt k) = Stops k
refused_by (UnknownName k) = Unknown k
refused_by Large = Refused TooLarge

-- ---- refusals

-- a row of the list: its number, and the values with which it is given
pub record ParseRow : Type 1 where
  pub number : ℕ
  pub given : List ℕ → Type 0

-- "Refusals, in order": the first row that is given decides, with its values; where none is, what follows
unfoldable pub Decides : List ParseRow → (Said → Type 0) → Said → Type 0
Decides [] passed s = passed s
Decides (row ∷ rows) passed s = ((s.number ≡ row.number) × row.given s.values) ⊎ (((vs : List ℕ) → row.given vs → ⊥) × Decides rows passed s)

-- a row that carries only its number, and one that carries an offset
abbrev pub number_row : ℕ → Type 0 → ParseRow
number_row k given = record { number = k; given = λ vs. (vs ≡ []) × given }

abbrev pub offset_row : ℕ → (ℕ → Type 0) → ParseRow
offset_row k given = record { number = k; given = λ vs. (o : ℕ) × (vs ≡ o ∷ []) × given o }

-- ---- lent slices

-- "operator code, left place, right place, size": each in a slice of its own
pub record Columns : Type 0 where
  pub codes : List ℕ
  pub lefts : List ℕ
  pub rights : List ℕ
  pub sizes : List ℕ

abbrev pub columns : List ℕ → List ℕ → List ℕ → List ℕ → Columns
columns codes lefts rights sizes = record { codes = codes; lefts = lefts; rights = rights; sizes = sizes }

-- how many nodes they have room for: the shortest decides
abbrev pub room_of : Columns → ℕ
room_of c = count_of c.codes c.lefts c.rights c.sizes

-- the nodes at the front; "in any lent slice what no rule writes stays"
abbrev pub nodes_over : List Node → Columns → Columns
nodes_over ns c =
    columns
    (over (map (λ n. n.code) ns) c.codes)
    (over (map (λ n. n.left) ns) c.lefts)
    (over (map (λ n. n.right) ns) c.rights)
    (over (map (λ n. n.size) ns) c.sizes)

-- ---- the contract

module _ (file text : List ℕ) (old : Columns) where
  abbrev pub names : List (List ℕ)
  names = names_in file

  -- "the names' 8"
  abbrev pub broken_names : ParseRow
  broken_names = offset_row 8 (λ o. whole_names file ≡ bad o)

  -- "12 if the text passes 4,096 bytes"
  abbrev pub long_text : ParseRow
  long_text = number_row 12 (most_bytes < length text)

  -- "11 with the offset of the first byte that can't continue a formula (the text's length if it ends early)"
  abbrev pub no_formula : ParseRow
  no_formula = offset_row 11 (Refused11 text)

  -- "13 with the offset of the first unknown name"
  abbrev pub unknown_name : ParseRow
  unknown_name = offset_row 13 (FirstUnknown names text)

  -- "12 if size passes 31 or brackets 64"
  abbrev pub large_formula : ParseRow
  large_formula = number_row 12 (((t : Typed) × Reads text t × (most_size < size t)) ⊎ Deep text)

  -- "3 for node room below the size"
  abbrev pub short_node_room : ParseRow
  short_node_room = number_row 3 ((t : Typed) × Reads text t × (room_of old < size t))

  abbrev pub parse_rows : List ParseRow
  parse_rows = broken_names ∷ long_text ∷ no_formula ∷ unknown_name ∷ large_formula ∷ short_node_room ∷ []

  -- "A text that isn't refused gives the one tree of the grammar, its nodes written left child, right child, parent, nothing shared": the formula
  -- whose text, typed with these names, has that tree; each of its propositions has a name
  pub record Taken (new : Columns) (s : Said) : Type 0 where
    pub number : s.number ≡ 0
    pub formula : Formula
    pub under : Named (length names) formula
    pub reads : Reads text (typed names formula)
    pub values : s.values ≡ size formula ∷ []
    pub nodes : new ≡ nodes_over (nodes_of codes 0 formula) old

  -- "A refusal .. writes nothing, and is given in no other case."
  pub record Parses (new : Columns) (s : Said) : Type 0 where
    pub answer : Decides parse_rows (Taken new) s
    pub refused : (s.number ≡ 0 → ⊥) → new ≡ old
