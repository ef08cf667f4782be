-- What any operation answers, in document 01's terms, and what it leaves in a lent slice.
-- Assumes nothing.
use Rattle.std.specs.Prelude.{Bool, true, false, List, ◌++◌, ℕ, length, drop}

-- an answer in document 01's terms: 0 and the values, or a refusal's number (and the offset, for those that have one)
pub record Said : Type 0 where
  pub number : ℕ
  pub values : List ℕ

-- new contents at the front; "in any lent slice what no rule writes stays"
abbrev pub over : List ℕ → List ℕ → List ℕ
over new old = new ++ drop (length new) old

-- what a test says: a fact, or its refutation
abbrev pub Tested : Type 0 → Bool → Type 0
Tested fact true = fact
Tested fact false = fact → ⊥
