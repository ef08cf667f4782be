-- What the words of `out` mean where scarfpylon_search returns 0: the mission's demand 3 at the boundary, in terms of the reading. `t` is what the
-- five slices held before the call, `u` what they hold after it. Proved in proofs/Promises: search-means.
-- Assumes nothing.
use Rattle.std.specs.Prelude.{◌≡◌, ◌⊎◌, List, ℕ, ◌+◌, get_or}
use Rattle.formula.specs.Nodes.{Node}
use Rattle.walk.specs.Walk.{found, none, full}
use Rattle.walk.specs.Input.{Input}
use Rattle.walk.specs.Kept.{Table}
use Rattle.walk.specs.Promises.{FoundAs, Full, NoneBelow}
use Rattle.counting.specs.declared.Counts.{Counts}
use Rattle.table.specs.Slices.{Cols}
use Rattle.search.specs.Promises.{Holding, CountedTo}
use Rattle.out_search.specs.Search.{SearchDone}

abbrev pub word_of_out : List ℕ → ℕ → ℕ
word_of_out out p = get_or out p 0

-- "at found the root's code, left, right, size"
abbrev pub root_of_out : List ℕ → Node
root_of_out out = record { code = word_of_out out 4; left = word_of_out out 5; right = word_of_out out 6; size = word_of_out out 7 }

-- "tried, kept", and "out[8] = dropped"
abbrev pub counts_in : List ℕ → Counts
counts_in out = record { tried = word_of_out out 2; kept = word_of_out out 3; dropped = word_of_out out 8 }

abbrev pub OutAddsUp : List ℕ → ℕ → Type 0
OutAddsUp out more = word_of_out out 2 ≡ word_of_out out 3 + word_of_out out 8 + more

-- "out = case (1 found, 2 none, 3 full), size (found, full), tried, kept ..": word 0 is one of the three, and what each says is so;
-- word 3 is the number of formulas in the table that the slices hold, word 2 the position of the candidate that ended the walk, and word 8 the number
-- dropped: "tried equals kept plus dropped, plus one where FOUND or FULL ended the walk"
pub record OutSays (i : Input) (t u : Cols) (out : List ℕ) : Type 0 where
  pub one_of : (word_of_out out 0 ≡ 1) ⊎ (word_of_out out 0 ≡ 2) ⊎ (word_of_out out 0 ≡ 3)
  -- the root node over the nodes in the slices is a formula that uses only what was offered, keeps to the bound and separates, and no smaller one does
  pub when-found : word_of_out out 0 ≡ 1 → (word_of_out out 1 ≡ word_of_out out 7) × CountedTo i t u (found (root_of_out out)) (counts_in out) × OutAddsUp out 1
      × ((k : Table) × Holding i t u (word_of_out out 3) k × FoundAs i (root_of_out out) k)
  -- no formula over what was offered that keeps to the bound separates
  pub when-none : word_of_out out 0 ≡ 2 → CountedTo i t u none (counts_in out) × OutAddsUp out 0 × NoneBelow i (i.bound + 1)
  -- the walk needs a place beyond the room, and no formula smaller than the size in word 1 separates
  pub when-full : word_of_out out 0 ≡ 3 → CountedTo i t u (full (word_of_out out 1)) (counts_in out) × OutAddsUp out 1
      × ((k : Table) × Holding i t u (word_of_out out 3) k × Full i (word_of_out out 1) k)

abbrev pub SearchMeans : Type 0
SearchMeans = (i : Input) (t : Cols) (old : List ℕ) (u : Cols) (new : List ℕ) → SearchDone i t old 0 u new → OutSays i t u new
