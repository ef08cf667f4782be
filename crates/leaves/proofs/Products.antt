-- Where the words of a place, and the word of a proposition, stand in their slices, and how far that is at most.
-- Assumes nothing.
use mathlib.Core.Path.{◌≡◌, ap, ◌∙◌}
use Prim.Native.Nat.{ℕ, ◌+◌, ◌*◌, ◌≤◌, ◌<◌}
use native.Mathlib.Omega.{arith}
use native.Mathlib.Nat.{suc-mul, mul_comm, mul-le-mul, mul-le-mul_right, add-mul, one-mul}

pub next_row : (p r : ℕ) → (p + 1) * r ≡ p * r + r
next_row p r = add-mul p 1 r ∙ ap (λ (x : ℕ). p * r + x) (one-mul r)

-- the r words of place p end before those of place n begin
pub place_end : (p n r : ℕ) → p < n → p * r + r ≤ n * r
place_end p n r h = omega (arith, suc-mul p r, mul-le-mul_right r h)

pub word_in : (j r m number : ℕ) → j < r → number < m → j * m + number < m * r
word_in j r m number h l = omega (arith, place_end j r m h, mul_comm m r)

pub at_most : (p n r s : ℕ) → p ≤ n → r ≤ s → p * r ≤ n * s
at_most p n r s h l = mul-le-mul h l
