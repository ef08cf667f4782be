-- Well-formedness by leading zeros: a word has 64 - n of them exactly where it is below 2 ^ n, and there no bit at or above n is set.
-- Assumes nothing.
use mathlib.Core.Logic.{◌↔◌}
use Prim.Native.Nat.{ℕ, suc, ◌-◌, ◌^◌, ◌≤◌, ◌<◌}
use native.Mathlib.Nat.{lt_of_lt_of_le, lt_of_not-le}
use native.Mathlib.Omega.{arith}
use lib.Pow.{pow_mono}
use lib.Count.{count_leading_zeros, leading_length}
use Rattle.words.specs.Word.{width, Wf}
use Rattle.words.proofs.At.{lt-wf, wf-lt}

pub leading-wf : {n x : ℕ} → n ≤ width → x < 2 ^ width → (width - n ≤ count_leading_zeros width x) ↔ Wf n x
leading-wf {n} {x} s l = (λ h. lt-wf s (below h), λ w. zeros (wf-lt w))
  where
    below : width - n ≤ count_leading_zeros width x → x < 2 ^ n
    below h = let t = leading_length width x l in lt_of_lt_of_le t.2 (pow_mono (omega arith))

    zeros : x < 2 ^ n → width - n ≤ count_leading_zeros width x
    zeros h =
        let t = leading_length width x l in
        let m : t.0 < suc n = lt_of_not-le λ g. omega (arith, pow_mono g) in
        omega arith
