-- What the private functions promise each other. No public contract cites this.
-- Assumes nothing.
use Rattle.std.specs.Prelude.{◌≡◌, cond, List, [], ◌∷◌, ℕ, suc, ◌+◌, ◌≤◌, length, get_or, eqb}
use Rattle.rules.specs.Limits.{most_size}

-- how many of the sizes are t
unfoldable pub exactly : ℕ → List ℕ → ℕ
exactly t [] = 0
exactly t (x ∷ xs) = cond (eqb x t) (suc (exactly t xs)) (exactly t xs)

-- how many of the sizes are one below each position
pub record SizesCounted (sizes counts : List ℕ) : Type 0 where
  pub long : length counts ≡ most_size + 2
  pub none : get_or counts 0 0 ≡ 0
  pub some : (t : ℕ) → t ≤ most_size → get_or counts (suc t) 0 ≡ exactly t sizes
