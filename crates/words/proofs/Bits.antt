-- The laws of `bit`: of `|`, `&`, `^`, `!`, shifts and masks; a word is told by its bits. Each goes by the digits, lowest first.
-- Assumes nothing.
use mathlib.Core.Path.{◌≡◌, sym, ap, ◌∙◌}
use Prim.Native.Nat.{ℕ, zero, suc, ◌+◌, ◌-◌, ◌/◌, ◌%◌, ◌^◌, ◌≤◌, ◌<◌, zero-le, min, max}
use native.Mathlib.Nat.{div-one, div-eq_of_lt, lt_of_lt_of_le}
use native.Mathlib.Numerals.{one-add}
use native.Mathlib.Omega.{arith}
use lib.Pow.{pow_pos, pow_mono, shr-shr}
use lib.Bits.{bit_and, bit_or, bit_xor, and_step, or_step, xor_add_and, and_shr, or_shr, xor_shr}
use Rattle.words.specs.Word.{bit}

pub bit-lt : (x i : ℕ) → bit x i < 2
unfolding bit
bit-lt x i = omega arith

-- ---- by the digits, lowest first

pub bit-first : (x : ℕ) → bit x 0 ≡ x % 2
unfolding bit
bit-first x = ap (λ (n : ℕ). n % 2) (div-one x)

pub bit-shr : (x k i : ℕ) → bit (x / 2 ^ k) i ≡ bit x (k + i)
unfolding bit
bit-shr x k i = ap (λ (n : ℕ). n % 2) (shr-shr x k i)

pub bit-rest : (x i : ℕ) → bit x (suc i) ≡ bit (x / 2) i
bit-rest x i = ap (bit x) (sym (one-add i)) ∙ sym (bit-shr x 1 i)

-- ---- the operators

pub bit-and : (a b i : ℕ) → bit (bit_and a b) i ≡ min (bit a i) (bit b i)
unfolding bit
bit-and a b i = rw and_shr (omega (arith, and_step (a / 2 ^ i) (b / 2 ^ i)))

pub bit-or : (a b i : ℕ) → bit (bit_or a b) i ≡ max (bit a i) (bit b i)
unfolding bit
bit-or a b i = rw or_shr (omega (arith, or_step (a / 2 ^ i) (b / 2 ^ i)))

pub bit-xor : (a b i : ℕ) → bit (bit_xor a b) i ≡ (bit a i + bit b i) % 2
unfolding bit
bit-xor a b i = rw xor_shr (omega (arith, xor_add_and (a / 2 ^ i) (b / 2 ^ i)))

-- `!a` at m bits
pub bit_not : (m i a : ℕ) → i < m → a < 2 ^ m → bit ((2 ^ m - 1) - a) i ≡ 1 - bit a i
bit_not zero i a h l = absurd (omega arith)
bit_not (suc m) zero a h l = simp bit-first (omega (arith, pow_pos m))
bit_not (suc m) (suc i) a h l =
    let e : ((2 ^ suc m - 1) - a) / 2 ≡ (2 ^ m - 1) - a / 2 = omega (arith, pow_pos m) in
    bit-rest ((2 ^ suc m - 1) - a) i ∙ ap (λ (n : ℕ). bit n i) e ∙ bit_not m i (a / 2) (omega arith) (omega arith) ∙ ap (λ (n : ℕ). 1 - n) (sym (bit-rest a i))

-- ---- high bits

pub bit_high : (n x i : ℕ) → x < 2 ^ n → n ≤ i → bit x i ≡ 0
unfolding bit
bit_high n x i l h = rw (div-eq_of_lt (lt_of_lt_of_le l (pow_mono h)))

-- a word is told by its bits
pub bits-ext : (n a b : ℕ) → a < 2 ^ n → b < 2 ^ n → ((i : ℕ) → i < n → bit a i ≡ bit b i) → a ≡ b
bits-ext zero a b ha hb e = omega arith
bits-ext (suc n) a b ha hb e =
    let first : a % 2 ≡ b % 2 = sym (bit-first a) ∙ e 0 (omega arith) ∙ bit-first b in
    let rest : a / 2 ≡ b / 2 = bits-ext n (a / 2) (b / 2) (omega arith) (omega arith) (λ i h. sym (bit-rest a i) ∙ e (suc i) (omega arith) ∙ bit-rest b i) in
    omega arith

pub bit-zero : (i : ℕ) → bit 0 i ≡ 0
bit-zero i = bit_high 0 0 i (omega arith) zero-le

below-pow : (x : ℕ) → x < 2 ^ x
below-pow zero = omega arith
below-pow (suc x) = omega (arith, below-pow x)

-- no bit at or above n set: below 2 ^ n
pub clear-lt : (n x : ℕ) → ((i : ℕ) → n ≤ i → bit x i ≡ 0) → x < 2 ^ n
clear-lt zero x c =
    let e : x ≡ 0 = bits-ext x x 0 (below-pow x) (pow_pos x) (λ i h. c i zero-le ∙ sym (bit-zero i)) in
    omega arith
clear-lt (suc n) x c =
    let r : x / 2 < 2 ^ n = clear-lt n (x / 2) (λ i h. sym (bit-rest x i) ∙ c (suc i) (omega arith)) in
    omega arith

-- ---- masks

-- the n low bits
pub bit-ones : (n i : ℕ) → i < n → bit (2 ^ n - 1) i ≡ 1
bit-ones n i h =
    let e : (2 ^ n - 1) - 0 ≡ 2 ^ n - 1 = omega arith in
    ap (λ (x : ℕ). bit x i) (sym e) ∙ bit_not n i 0 h (pow_pos n) ∙ ap (λ (x : ℕ). 1 - x) (bit-zero i)
