-- What is promised of the counts; proved under its name in proofs/Tallies: counts-are-walks.
-- Assumes nothing.
use Rattle.std.specs.Prelude.{◌≡◌, List, ℕ, ◌+◌, ◌^◌, ◌≤◌, ◌<◌, length}
use Rattle.walk.specs.Walk.{Candidate, kept, walk_tally}
use Rattle.walk.specs.Kept.{Table}
use Rattle.counting.specs.declared.Fate.{Fate}
use Rattle.counting.specs.declared.Counts.{Counts}
use Rattle.counting.specs.Counting.{counted_by, comes, tally_of}

-- the counts are the walk's: of a walk that has kept k, where no count has reached the largest number
abbrev pub CountsAreWalks : Type 0
CountsAreWalks = (v : Fate) (n : Counts) (x : Candidate (List ℕ)) (k : Table) → n.kept ≡ length k → n.tried + 1 < 2 ^ 64 → n.kept ≤ n.tried → n.dropped ≤ n.tried
    → (tally_of (counted_by v n) ≡ walk_tally (comes v x k (tally_of n))) × ((counted_by v n).kept ≡ length (kept (comes v x k (tally_of n))))
