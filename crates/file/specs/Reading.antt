-- What the reader answers and leaves in the lent slices, for every byte string.
-- Assumes nothing.
use Rattle.std.specs.Prelude.{Bool, cond, ◌&&◌, ℕ, ◌*◌, leb, length, Result, Ok, Err}
use mathlib.Core.List.{List, [], ◌∷◌, map, flat_map}
use Rattle.rules.specs.Answers.{Said, over}
use Rattle.file.specs.declared.Parts.{Parts as Numbers}
use Rattle.file.specs.declared.ReadError.{ReadError}
use Rattle.file.specs.declared.ReadError.TheVariants.{Broken, Room}
use Rattle.file.specs.Format.{Parts}
use Rattle.reading.specs.Reading.{section, Got, got, bad, broken}
use Rattle.names.specs.Names.{name_bytes}
use Rattle.file.specs.Offence.{whole_file}

abbrev pub too_little_room : Said
too_little_room = record { number = 3; values = [] }

-- the values: r, m, bytes of the names section, unary codes, binary codes, constants mark, B
abbrev pub said_read : Result Numbers ReadError → Said
said_read (Ok n) = record { number = 0; values = n.sessions ∷ n.propositions ∷ n.names ∷ n.unary ∷ n.binary ∷ n.constants ∷ n.bound ∷ [] }
said_read (Err (Broken o)) = broken o
said_read (Err Room) = too_little_room

-- ---- a session file

-- the lent slices
pub record Lent : Type 0 where
  pub marks : List ℕ
  pub lengths : List ℕ
  pub words : List ℕ
  pub unary : List ℕ
  pub binary : List ℕ

abbrev pub lent : List ℕ → List ℕ → List ℕ → List ℕ → List ℕ → Lent
lent marks lengths words unary binary = record { marks = marks; lengths = lengths; words = words; unary = unary; binary = binary }

-- an answer, and the lent slices as the call leaves them
pub record After : Type 0 where
  pub answer : Said
  pub left : Lent

abbrev pub read_after : Said → List ℕ → List ℕ → List ℕ → List ℕ → List ℕ → After
read_after answer marks lengths words unary binary = record { answer = answer; left = lent marks lengths words unary binary }

-- what the parts hand out: marks, lengths and words, m per session
abbrev pub marks_of : Parts → List ℕ
marks_of p = map (λ s. s.mark) p.sessions

abbrev pub lengths_of : Parts → List ℕ
lengths_of p = map (λ s. s.length) p.sessions

abbrev pub words_of : Parts → List ℕ
words_of p = flat_map (λ s. s.words) p.sessions

-- "3: a lent slice shorter than .. the parts read ask"
abbrev pub room_for : Parts → Lent → Bool
room_for p l =
    leb (length p.sessions) (length l.marks)
    && (leb (length p.sessions) (length l.lengths)
    && (leb (length p.names * length p.sessions) (length l.words)
    && (leb (length p.unary) (length l.unary)
    && leb (length p.binary) (length l.binary))))

abbrev pub handed_out : Parts → Lent → After
handed_out p l =
    record {
      answer = record {
        number = 0;
        values = length p.sessions
            ∷ length p.names
            ∷ length (section name_bytes p.names)
            ∷ length p.unary
            ∷ length p.binary
            ∷ p.constants
            ∷ p.bound
            ∷ [];
      };
      left = lent (over (marks_of p) l.marks) (over (lengths_of p) l.lengths) (over (words_of p) l.words) (over p.unary l.unary) (over p.binary l.binary);
    }

-- "The reader answers 8 before 3"; "A refusal .. writes nothing"
abbrev pub outcome : Got Parts → Lent → After
outcome (bad o) l = record { answer = broken o; left = l }
outcome (got p next) l = cond (room_for p l) (handed_out p l) (record { answer = too_little_room; left = l })

abbrev pub read_of : List ℕ → Lent → After
read_of file l = outcome (whole_file file) l
