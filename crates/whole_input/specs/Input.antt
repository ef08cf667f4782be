-- What was read of standard input.
-- Assumes nothing.
use Rattle.std.specs.Prelude.{ℕ, ◌<◌, ◌≤◌, List, length, take}
use Rattle.std.specs.Io.KnownBytes.{Consumes, IsAtEnd}
use Rattle.std.specs.declared.option.Option.{Option}

-- the reader gave n bytes, which stand at the start of the room; where they don't fill it, nothing is left to read
pub record FirstBytes (old new : Option (List ℕ)) (room : List ℕ) (n : ℕ) : Type 0 where
  pub within : n ≤ length room
  pub taken : Consumes old new (take n room)
  pub ended : n < length room → IsAtEnd new

-- where a read failed: the reader gave some bytes before, which stand at the start of the room, and no others
abbrev pub FirstOf : Option (List ℕ) → Option (List ℕ) → List ℕ → Type 0
FirstOf old new room = (n : ℕ) × (n ≤ length room) × Consumes old new (take n room)
