-- The answers of a search as document 01 tells them: number and values of each case.
-- Assumes nothing.
use Rattle.std.specs.Prelude.{List, [], ◌∷◌, ℕ}
use Rattle.rules.specs.Answers.{Said}
use Rattle.walk.specs.Walk.{Ending, found, full, none, WalkState, going, ended}
use Rattle.formula.specs.Nodes.{Node}
use Rattle.counting.specs.declared.Counts.{Counts}
pub use Rattle.counting.specs.Counting.{tally_of}
pub use Rattle.turns.specs.Standing.{counts}

-- ---- the number and values of each case: 0 and the case, the size of FOUND and FULL, the counts (tried, kept), FOUND's root node, and the number dropped; or
-- document 01's number of a refusal and nothing else. The cases' numbers are our own, those of the C boundary: 1 FOUND, 2 NONE,
-- 3 FULL

abbrev pub found_said : Node → Counts → Said
found_said root n = record { number = 0; values = 1 ∷ root.size ∷ n.tried ∷ n.kept ∷ root.code ∷ root.left ∷ root.right ∷ root.size ∷ n.dropped ∷ [] }

abbrev pub none_said : Counts → Said
none_said n = record { number = 0; values = 2 ∷ n.tried ∷ n.kept ∷ n.dropped ∷ [] }

abbrev pub full_said : ℕ → Counts → Said
full_said size n = record { number = 0; values = 3 ∷ size ∷ n.tried ∷ n.kept ∷ n.dropped ∷ [] }

abbrev pub end_said : Ending → Counts → Said
end_said (found root) n = found_said root n
end_said none n = none_said n
end_said (full size) n = full_said size n

abbrev pub walk_said : WalkState (List ℕ) → Said
walk_said (going k n) = none_said (counts k n)
walk_said (ended e k n) = end_said e (counts k n)
