-- What is promised of every answer of the search, whatever the input: the mission's demand 3, in terms of the reading. `u` is what the lent slices
-- hold after the search, `t` what they held before. Each is proved under its name in proofs/Promises: search-unique,
-- search-found-smallest and so on.
-- Assumes nothing.
use Rattle.std.specs.Prelude.{◌≡◌, ℕ, ◌+◌, length, Ok, Err}
use Rattle.formula.specs.declared.kinds.Node.{Node}
use Rattle.formula.specs.Kinds.{node_of}
use Rattle.walk.specs.Walk.{Ending, found, none, full, trail}
use Rattle.walk.specs.Input.{Input, separating, offer}
use Rattle.walk.specs.Kept.{Table}
use Rattle.walk.specs.Promises.{NoneBelow, Kept, DecidedAt, AgreeWhereRead, Wider}
use Rattle.walk.specs.Promises as walk
use Rattle.counting.specs.declared.Counts.{Counts}
use Rattle.search.specs.declared.SearchAnswer.TheVariants.{Found, None, Full}
use Rattle.search.specs.Table.{Cols, table_over}
use Rattle.checks.specs.Promises.{DataThere}
use Rattle.search.specs.Search.{Answer, said_search, Searched}

-- document 01's "Any pair of results allowed for the same input is shown equal"
abbrev pub SearchUnique : Type 0
SearchUnique = (i : Input) (t : Cols) (a b : Answer) (u v : Cols) → Searched i t a u → Searched i t b v → (a ≡ b) × (u ≡ v)

-- what lies beyond is not looked at: inputs that agree where they are read have one result, a refusal too
abbrev pub SearchSameWhereRead : Type 0
SearchSameWhereRead = (i j : Input) → AgreeWhereRead i j → DataThere i → DataThere j → (t : Cols) (a b : Answer) (u v : Cols)
    → Searched i t a u → Searched j t b v → (a ≡ b) × (u ≡ v)

-- ---- the mission's demand 3

-- the number kept is the length of a table of formulas, each of which doesn't separate and no two alike, and that table is what the slices hold
pub record Holding (i : Input) (t u : Cols) (kept : ℕ) (k : Table) : Type 0 where
  pub as_many : length k ≡ kept
  pub holds : u ≡ table_over k t
  pub formulas : Kept i k

-- "a formula found uses only what was offered, keeps to the bound, separates the sessions, and no smaller one over what was offered does": it is
-- the root node over the table
abbrev pub SearchFoundSmallest : Type 0
SearchFoundSmallest = (i : Input) (t u : Cols) (root : Node) (n : Counts) → Searched i t (Ok (Found root n)) u
    → (k : Table) × Holding i t u n.kept k × walk.FoundAs i (node_of root) k

-- ""None" only where no such formula within the bound separates"
abbrev pub SearchNoneMeansNone : Type 0
SearchNoneMeansNone = (i : Input) (t u : Cols) (n : Counts) → Searched i t (Ok (None n)) u
    → (k : Table) × Holding i t u n.kept k × NoneBelow i (i.bound + 1)

-- ""Full at size s" only where the walk needs a place beyond the table's room, and then no such formula smaller than s separates": with any larger
-- room the walk keeps the same table and one formula more, of that size
abbrev pub SearchFullNeedsRoom : Type 0
SearchFullNeedsRoom = (i : Input) (t u : Cols) (size : ℕ) (n : Counts) → Searched i t (Ok (Full size n)) u
    → (k : Table) × Holding i t u n.kept k × walk.Full i size k

-- "With the same sessions, operators in the same order and choice of constants, a larger bound or table never changes a formula found": where a
-- search of j, which is i with a larger or equal bound and room, isn't refused, its whole answer is the same, and its slices hold the same table
abbrev pub SearchLargerSame : Type 0
SearchLargerSame = (i j : Input) → Wider i j → (t u : Cols) (root : Node) (n : Counts) → Searched i t (Ok (Found root n)) u
    → (t' : Cols) (a : Answer) (v : Cols) → Searched j t' a v → (said_search a).number ≡ 0
    → (a ≡ Ok (Found root n)) × ((k : Table) × Holding i t u n.kept k × Holding j t' v n.kept k)

-- ---- the counts

-- the table that the slices hold, and of the candidates in 01's order the deciding one at the position told, counted from 1; at NONE they were as many
abbrev pub CountedTo : Input → Cols → Cols → Ending → Counts → Type 0
CountedTo i t u e n = (k : Table) × Holding i t u n.kept k × DecidedAt (separating i) (trail (offer i) i.room i.bound) e k n.tried

abbrev pub Counted : Input → Cols → Cols → Answer → Type 0
Counted i t u (Ok (Found root n)) = CountedTo i t u (found (node_of root)) n
Counted i t u (Ok (None n)) = CountedTo i t u none n
Counted i t u (Ok (Full size n)) = CountedTo i t u (full size) n
Counted i t u (Err refusal) = Unit {0}

-- "the number of candidates tried, up to and including the deciding one, and the number kept"
abbrev pub SearchTriedIsPosition : Type 0
SearchTriedIsPosition = (i : Input) (t u : Cols) (a : Answer) → Searched i t a u → Counted i t u a

-- request E6's "tried equals kept plus dropped, plus one where FOUND or FULL ended the walk"
abbrev pub SumOf : Answer → Type 0
SumOf (Ok (Found root n)) = n.tried ≡ n.kept + n.dropped + 1
SumOf (Ok (None n)) = n.tried ≡ n.kept + n.dropped
SumOf (Ok (Full size n)) = n.tried ≡ n.kept + n.dropped + 1
SumOf (Err refusal) = Unit {0}

abbrev pub SearchTriedAddsUp : Type 0
SearchTriedAddsUp = (i : Input) (t u : Cols) (a : Answer) → Searched i t a u → SumOf a
