-- The lent slices of a table, and the kept formulas in them.
-- Assumes nothing.
use mathlib.Core.List.{List, map, flat_map}
use Rattle.std.specs.Prelude.{ℕ}
use Rattle.rules.specs.Answers.{over}
use Rattle.walk.specs.Kept.{Table}

-- "The kept formulas are a lent list of nodes: operator code, left place, right place, size": four lists of numbers. "The matrices lie in a lent
-- slice of words, r per place"
pub record Cols : Type 0 where
  pub codes : List ℕ
  pub lefts : List ℕ
  pub rights : List ℕ
  pub sizes : List ℕ
  pub matrices : List ℕ

abbrev pub cols : List ℕ → List ℕ → List ℕ → List ℕ → List ℕ → Cols
cols codes lefts rights sizes matrices = record { codes = codes; lefts = lefts; rights = rights; sizes = sizes; matrices = matrices }

-- the kept formulas in kept order, over what was there before: "Places from kept on keep their old contents; in any lent slice what no rule
-- writes stays"
abbrev pub table_over : Table → Cols → Cols
table_over k t = record {
  codes = over (map (λ c. c.node.code) k) t.codes;
  lefts = over (map (λ c. c.node.left) k) t.lefts;
  rights = over (map (λ c. c.node.right) k) t.rights;
  sizes = over (map (λ c. c.node.size) k) t.sizes;
  matrices = over (flat_map (λ c. c.matrix) k) t.matrices;
}
