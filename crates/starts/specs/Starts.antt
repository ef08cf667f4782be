-- Where each size begins in the table of kept formulas.
-- Assumes nothing.
use Rattle.std.specs.Prelude.{cond, List, [], ◌∷◌, map, ℕ, suc, ◌+◌, take, ltb}
use Rattle.rules.specs.Limits.{most_size}
use Rattle.rules.specs.Lists.{count}

-- how many of the sizes are below t
unfoldable pub below : ℕ → List ℕ → ℕ
below t [] = 0
below t (x ∷ xs) = cond (ltb x t) (suc (below t xs)) (below t xs)

-- for each t from 0 to the largest size and one more: the number of formulas of size below t, among the first `kept` of the column of sizes; where
-- the column is shorter, among all of it
unfoldable pub starts_of : List ℕ → ℕ → List ℕ
starts_of sizes kept = map (λ t. below t (take kept sizes)) (count 0 (most_size + 2))
