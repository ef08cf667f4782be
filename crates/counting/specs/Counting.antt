-- What a walk comes to by what becomes of a candidate, and its counts.
-- Assumes nothing.
use Rattle.std.specs.Prelude.{List, [], ◌∷◌, ◌++◌, ℕ, ◌+◌, ◌-◌, ◌^◌, min}
use Rattle.walk.specs.Walk.{Candidate, found, full, Tally, tally, one_tried, one_dropped, WalkState, going, ended}
use Rattle.walk.specs.Kept.{Table}
use Rattle.counting.specs.declared.Counts.{Counts}
use Rattle.counting.specs.declared.Fate.{Fate}
use Rattle.counting.specs.declared.Fate.TheVariants.{Found, Dropped, Full, Kept}

-- one more; a count that has reached the largest number of its word stays. No walk comes so far, but a made-up state may hold it
abbrev pub one_more : ℕ → ℕ
one_more n = min (n + 1) (2 ^ 64 - 1)

-- "Each candidate is counted"; request E6's "the number dropped"
abbrev pub counted_by : Fate → Counts → Counts
counted_by Found n = record { tried = one_more n.tried; kept = n.kept; dropped = n.dropped }
counted_by Dropped n = record { tried = one_more n.tried; kept = n.kept; dropped = one_more n.dropped }
counted_by Full n = record { tried = one_more n.tried; kept = n.kept; dropped = n.dropped }
counted_by Kept n = record { tried = one_more n.tried; kept = one_more n.kept; dropped = n.dropped }

-- "if its acceptance equals the marks, FOUND; else if its matrix equals a kept one in every row, dropped; else if C are kept, FULL at size s; else kept
-- at the next place": what the walk that has kept k, with the tally n, comes to by each
abbrev pub comes : Fate → Candidate (List ℕ) → Table → Tally → WalkState (List ℕ)
comes Found x k n = ended (found x.node) k (one_tried n)
comes Dropped x k n = going k (one_dropped (one_tried n))
comes Full x k n = ended (full x.node.size) k (one_tried n)
comes Kept x k n = going (k ++ (x ∷ [])) (one_tried n)

-- the counts as the walk's
abbrev pub tally_of : Counts → Tally
tally_of n = tally n.tried n.dropped
