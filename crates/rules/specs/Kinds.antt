-- "Place numbers, session numbers and proposition numbers are kinds that can't be mixed": what their types bound.
-- Assumes nothing.
use Rattle.std.specs.Prelude.{ℕ}

-- the largest number that a proposition can have by its type: "a proposition's number is its left field", and a field beyond it is none's
abbrev pub most_number : ℕ
most_number = 255
