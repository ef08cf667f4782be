-- What the table's private functions promise each other. No public contract cites this.
-- Assumes nothing.
use Rattle.std.specs.Prelude.{ℕ, ◌+◌, ◌*◌, ◌≤◌, ◌<◌}
use Rattle.rules.specs.Limits.{most_sessions}

-- ---- keeping

-- there are r rows, and slices of those lengths have the place
pub record FitsAt (r place rows codes lefts rights sizes matrices : ℕ) : Type 0 where
  pub sessions-in : r ≤ most_sessions
  pub rows-there : r ≤ rows
  pub codes-in : place < codes
  pub lefts_in : place < lefts
  pub rights-in : place < rights
  pub sizes-in : place < sizes
  pub matrix-in : place * r + r ≤ matrices
