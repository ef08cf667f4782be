-- Lists in the definitions of several crates: numbers in a row, one list after the other, items judged with those before them.
-- Assumes nothing.
use mathlib.Core.List.{List, [], ◌∷◌, ◌++◌, Memᴰ}
use Rattle.std.specs.Prelude.{ℕ, zero, suc}

infix 4 ◌∈◌
abbrev pub ◌∈◌ : {A : Type 0} → A → List A → Type 0
a ∈ l = Memᴰ a l

-- n numbers from a on
unfoldable pub count : ℕ → ℕ → List ℕ
count a zero = []
count a (suc n) = a ∷ count (suc a) n

-- f of each, one list after the other
unfoldable pub each : {A B : Type 0} → List A → (A → List B) → List B
each [] f = []
each (x ∷ xs) f = f x ++ each xs f

-- each item of a list is fit, given those before it
unfoldable pub Each : {A : Type 0} → (List A → A → Type 0) → List A → List A → Type 0
Each fit before [] = Unit {0}
Each fit before (a ∷ later) = fit before a × Each fit (before ++ (a ∷ [])) later
