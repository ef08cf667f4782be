-- The numbers by which the loop bounds what it tries, each made from document 01's limits. They only have to be large enough, and small enough that the
-- count of tried candidates never wraps.
-- Assumes nothing.
use Rattle.std.specs.Prelude.{ℕ, ◌+◌, ◌*◌}
use Rattle.rules.specs.Limits.{most_size, most_room}

-- at most so many operators of a group are offered, none twice
abbrev pub operators : ℕ
operators = 6

-- the candidates of a size: the leaves of as many propositions as their kind can number, and two constants; or at most 16 splits, each with every
-- pair of places, and over each pair both orders of each operator
abbrev pub per_size : ℕ
per_size = 257 + 16 * (most_room * (most_room * (operators * 2)))

-- all sizes; each ends once
abbrev pub in_all : ℕ
in_all = (per_size + 1) * (most_size + 1)
