-- A word and its eight bytes, low byte first, are the same thing.
-- Assumes nothing.
use mathlib.Core.Path.{◌≡◌, refl, ap}
use mathlib.Core.List.{List, [], ◌∷◌}
use Prim.Native.Nat.{ℕ, zero, suc, ◌+◌, ◌*◌, ◌/◌, ◌%◌, ◌^◌, ◌<◌}
use native.Mathlib.Nat.{pow-suc}
use native.Mathlib.Omega.{arith}
use lib.ListN.{length}
use Rattle.file.specs.Format.{low_first}
use Rattle.file.specs.Offence.{number}
pub use Rattle.file.specs.Promises.{Bytes}

pub length-low : (k w : ℕ) → length (low_first k w) ≡ k
unfolding low_first
length-low zero w = refl
length-low (suc k) w = ap suc (length-low k (w / 256))

pub number-low : (k w : ℕ) → w < 256 ^ k → number (low_first k w) ≡ w
unfolding low_first number
number-low zero w h = omega arith
number-low (suc k) w h =
    let l : w < 256 ^ k * 256 = rw pow-suc at h in
    omega (arith, number-low k (w / 256) (omega arith))

pub low-number : (l : List ℕ) → Bytes l → low_first (length l) (number l) ≡ l
unfolding low_first number
low-number [] h = refl
low-number (b ∷ l) h =
    let lt : b < 256 = h 0 in
    let m : (b + 256 * number l) % 256 ≡ b = omega arith in
    let d : (b + 256 * number l) / 256 ≡ number l = omega arith in
    rw (m, d) (ap (λ (r : List ℕ). b ∷ r) (low-number l (λ i. h (suc i))))
