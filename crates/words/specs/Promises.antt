-- What is promised of the reading itself: the statement, proved under its name in proofs/Lengths.antt.
-- Assumes nothing.
use Rattle.std.specs.Prelude.{◌≡◌, ◌↔◌, ◌⊎◌, ℕ, ◌+◌, ◌<◌}
use Rattle.words.specs.Ltlf.{Reading, WeakNext}

-- for i below n `X` is as document 01 has it: "`X` f holds at i if i+1 = n or f holds at i+1." (next-below)
abbrev pub NextBelow : Type 1
NextBelow = (n : ℕ) (f : Reading) (i : ℕ) → i < n → WeakNext n f i ↔ ((i + 1 ≡ n) ⊎ f (i + 1))
