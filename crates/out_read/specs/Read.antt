-- scarfpylon_read: what it returns and leaves in the lent slices and in `out`, for every byte string.
-- Assumes nothing.
use Rattle.std.specs.Prelude.{cond, ◌&&◌, List, ℕ, leb, length}
use Rattle.file.specs.Format.{Parts}
use Rattle.reading.specs.Reading.{Got, got, bad, broken}
use Rattle.file.specs.Offence.{whole_file}
use Rattle.file.specs.Reading.{too_little_room, Lent, After, room_for, handed_out}
use Rattle.out.specs.Out.{out_words, written, returned_of, said_words}

-- the number, the lent slices and `out` as the call leaves them
pub record ReadDone : Type 0 where
  pub returned : ℕ
  pub left : Lent
  pub out : List ℕ

abbrev pub done : ℕ → Lent → List ℕ → ReadDone
done returned left out = record { returned = returned; left = left; out = out }

-- an answer of the reader with its slices: "out = r, m, bytes of the names section, unary codes, binary codes, constants mark, bound"
abbrev pub done_by : After → List ℕ → ReadDone
done_by a old = done (returned_of a.answer) a.left (written (said_words a.answer) old)

-- "The reader answers 8 before 3", and a short `out` is one more slice without room; "a refusal writes nothing"
abbrev pub out_outcome : Got Parts → Lent → List ℕ → ReadDone
out_outcome (bad o) l old = done_by (record { answer = broken o; left = l }) old
out_outcome (got p next) l old =
    cond (room_for p l && leb out_words (length old)) (done_by (handed_out p l) old) (done_by (record { answer = too_little_room; left = l }) old)

abbrev pub read_done : List ℕ → Lent → List ℕ → ReadDone
read_done file l old = out_outcome (whole_file file) l old
