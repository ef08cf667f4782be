-- What a write or a read that failed leaves.
-- Assumes nothing.
use Rattle.std.specs.Prelude.{ℕ, ◌≤◌, List, length, take}
use Rattle.std.specs.declared.option.Option.{Option}
use Rattle.std.specs.Io.KnownBytes.{Appends, Consumes}

-- a front of what was to be said was written, and nothing else
abbrev pub SaidFront : Option (List ℕ) → Option (List ℕ) → List ℕ → Type 0
SaidFront old new text = (n : ℕ) × (n ≤ length text) × Appends old new (take n text)

-- the reader gave no more than n bytes, and they are lost
abbrev pub LostAtMost : Option (List ℕ) → Option (List ℕ) → ℕ → Type 0
LostAtMost old new n = (bs : List ℕ) × (length bs ≤ n) × Consumes old new bs
