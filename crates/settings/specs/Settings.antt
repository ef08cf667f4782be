-- The settings of a search and its codes, each in two parts: what holds where the answer is true, and what is wrong where it is false.
-- Assumes nothing.
use Rattle.std.specs.Prelude.{◌≡◌, ◌⊎◌, Bool, true, false, List, ℕ, ◌≤◌, ◌<◌, length, get_or}
use Rattle.rules.specs.Limits.{most_size, most_room, Outside}
use Rattle.operators.specs.Table.{GroupIs}

-- "size bound B 1 to 31; table room C 1 to 4,096 formulas", the constants' mark 0 or 1
abbrev pub SettingsTold : ℕ → ℕ → ℕ → Bool → Type 0
SettingsTold bound room constants true = (1 ≤ bound) × (bound ≤ most_size) × (1 ≤ room) × (room ≤ most_room) × (constants ≤ 1)
SettingsTold bound room constants false = Outside 1 most_size bound ⊎ Outside 1 most_room room ⊎ (1 < constants)

-- a code stands at two positions
abbrev pub Repeated : List ℕ → Type 0
Repeated codes = (p : ℕ) × (q : ℕ) × (p < q) × (q < length codes) × (get_or codes p 0 ≡ get_or codes q 0)

-- "code not in its group .., or repeated": none is, or one is
pub record GoodCodes (unary : Bool) (codes : List ℕ) : Type 0 where
  pub in_group : (o : ℕ) → o < length codes → GroupIs unary (get_or codes o 0)
  pub once : (p q : ℕ) → p < q → q < length codes → get_or codes p 0 ≡ get_or codes q 0 → ⊥

abbrev pub BadCodes : Bool → List ℕ → Type 0
BadCodes unary codes = ((o : ℕ) × (o < length codes) × (GroupIs unary (get_or codes o 0) → ⊥)) ⊎ Repeated codes

abbrev pub CodesTold : Bool → List ℕ → Bool → Type 0
CodesTold unary codes true = GoodCodes unary codes
CodesTold unary codes false = BadCodes unary codes
