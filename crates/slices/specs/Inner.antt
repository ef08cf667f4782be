-- What the private test of a budget promises. No public contract cites this.
-- Assumes nothing.
use Rattle.std.specs.Prelude.{[], ◌∷◌, ℕ}
use Rattle.rules.specs.Refusals.{Decided}
use Rattle.session.specs.Data.{outside_numbers}

-- 1 before 2
abbrev pub OneOrTwo : ℕ → ℕ → ℕ → Type 0
OneOrTwo r m k = Decided (outside_numbers r m ∷ record { number = 2; given = Unit {0} } ∷ []) k
