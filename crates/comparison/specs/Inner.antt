-- What the comparison's private functions promise each other. No public contract cites this.
-- Assumes nothing.
use Rattle.std.specs.Prelude.{◌≡◌, List, ℕ, ◌<◌, get_or}
use Rattle.comparison.specs.declared.Compared.{Compared}
use Rattle.comparison.specs.declared.Compared.TheVariants.{Equal, Differs}

-- a matrix against x, the kept one at the place: equal in the first r rows, or the first of them that differs
abbrev pub ComparedAt : ℕ → ℕ → List ℕ → List ℕ → Compared → Type 0
ComparedAt r place x rows (Equal p) = (p.0 ≡ place) × ((t : ℕ) → t < r → get_or rows t 0 ≡ get_or x t 0)
ComparedAt r place x rows (Differs j) = (j.0 < r) × ((t : ℕ) → t < j.0 → get_or rows t 0 ≡ get_or x t 0) × (get_or rows j.0 0 ≡ get_or x j.0 0 → ⊥)
