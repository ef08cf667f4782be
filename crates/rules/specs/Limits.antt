-- The numbers of document 01 ("Numbers"), and of the requests E2 and E7, that bound what the library takes, each under one name; in code they are the constants of src/lib.rt. The
-- largest length is `width`, of `words`; the session file has limits of its own.
-- Assumes nothing.
use Rattle.std.specs.Prelude.{List, length, ◌⊎◌, ℕ, ◌<◌, ◌≤◌}

-- "sessions r 1 to 32"
abbrev pub most_sessions : ℕ
most_sessions = 32

-- "propositions m 1 to 16"
abbrev pub most_propositions : ℕ
most_propositions = 16

-- "size bound B 1 to 31"
abbrev pub most_size : ℕ
most_size = 31

-- "table room C 1 to 4,096 formulas", and "a node list of 0 to 4,096 nodes"
abbrev pub most_room : ℕ
most_room = 4096

-- "12 if the text passes 4,096 bytes" (request E2)
abbrev pub most_bytes : ℕ
most_bytes = 4096

-- "a budget of 0 to 1,000,000 candidates" (request E7)
abbrev pub most_budget : ℕ
most_budget = 1000000

-- n is none of the numbers from lo to hi
abbrev pub Outside : ℕ → ℕ → ℕ → Type 0
Outside lo hi n = (n < lo) ⊎ (hi < n)

-- r is within its numbers, and a slice has a word for each of r sessions
pub record WordForEach (r : ℕ) (slice : List ℕ) : Type 0 where
  pub sessions-in : r ≤ most_sessions
  pub there : r ≤ length slice
