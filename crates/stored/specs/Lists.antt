-- How a list of numbers is said.
-- Assumes nothing.
use Rattle.std.specs.Prelude.{ℕ, List, [], ◌∷◌, ◌++◌}

-- a space (32) and a number's text, one after another
abbrev pub spaced : {X : Type 0} → (X → List ℕ) → List X → List ℕ
spaced text [] = []
spaced text (x ∷ xs) = 32 ∷ (text x ++ spaced text xs)

-- a space and a bar (124) before them
abbrev pub listed : {X : Type 0} → (X → List ℕ) → List X → List ℕ
listed text xs = 32 ∷ 124 ∷ spaced text xs
