-- Bits as readings: what `|`, `&`, `!` and the low bit hold at a place, a bounded search, what makes a `Means`, and that a reading has one word.
-- Assumes nothing.
use mathlib.Core.Path.{◌≡◌, refl, sym, ◌∙◌, subst}
use mathlib.Core.Logic.{◌↔◌, ◌⊎◌, inl, inr, ⊎_elim}
use Prim.Native.Nat.{ℕ, zero, suc, ◌+◌, ◌-◌, ◌^◌, ◌≤◌, ◌<◌}
use native.Mathlib.Nat.{lt_of_not-le, lt_of_lt_of_le, eq-or-lt_of_le}
use native.Mathlib.Omega.{arith}
use lib.Bits.{bit_and, bit_or, and_mask}
use lib.Pow.{pow_mono}
use Rattle.words.specs.Ltlf.{Reading}
use Rattle.words.specs.Word.{width, bit, At, Wf, WfRecorded, WfComputed, places, Means}
use Rattle.words.proofs.Bits.{bit-lt, bit-first, bit-and, bit-or, bit_not, bit_high, bits-ext, clear-lt}

-- a bit is set or not
pub at-or-not : (x i : ℕ) → At x i ⊎ (At x i → ⊥)
at-or-not x i = go (bit x i) refl
  where
    go : (b : ℕ) → bit x i ≡ b → At x i ⊎ (At x i → ⊥)
    go zero e = inr (λ h. omega arith)
    go (suc b) e = inl (omega (arith, bit-lt x i))

pub not_at : (x i : ℕ) → (At x i → ⊥) → bit x i ≡ 0
not_at x i h = omega (arith, bit-lt x i)

-- `x & 1` is the first snapshot
pub at_first : (x : ℕ) → bit_and x 1 ≡ 1 ↔ At x 0
at_first x = (λ h. omega (arith, bit-first x, and_mask x 1), λ h. omega (arith, bit-first x, and_mask x 1))

-- a reading that holds or not at each place holds at one of the d places from i on, or at none
module _ (f : Reading) (df : (i : ℕ) → f i ⊎ (f i → ⊥)) where
  pub find : (d i : ℕ) → ((k : ℕ) × (i ≤ k) × (k < i + d) × f k) ⊎ ((k : ℕ) → i ≤ k → k < i + d → f k → ⊥)
  find zero i = inr (λ k l m. absurd (omega arith))
  find (suc d) i = go (df (i + d)) (find d i)
    where
      go : f (i + d) ⊎ (f (i + d) → ⊥) → ((k : ℕ) × (i ≤ k) × (k < i + d) × f k) ⊎ ((k : ℕ) → i ≤ k → k < i + d → f k → ⊥)
          → ((k : ℕ) × (i ≤ k) × (k < i + suc d) × f k) ⊎ ((k : ℕ) → i ≤ k → k < i + suc d → f k → ⊥)
      go (inl p) q = inl (i + d, omega arith, omega arith, p)
      go (inr p) (inl t) = inl (t.0, t.1, omega arith, t.3)
      go (inr p) (inr q) =
          inr (λ k l b. ⊎_elim (λ e. subst (λ (k : ℕ). f k → ⊥) (sym e) p) (λ s. q k l s) (eq-or-lt_of_le {n = k} {m = i + d} (omega arith)))

pub at-or : (a b i : ℕ) → At (bit_or a b) i → At a i ⊎ At b i
at-or a b i h = go (at-or-not a i)
  where
    go : At a i ⊎ (At a i → ⊥) → At a i ⊎ At b i
    go (inl p) = inl p
    go (inr p) = inr (omega (arith, bit-or a b i, bit-lt a i, bit-lt b i))

pub or_left : (a b i : ℕ) → At a i → At (bit_or a b) i
or_left a b i h = omega (arith, bit-or a b i, bit-lt b i)

pub or_right : (a b i : ℕ) → At b i → At (bit_or a b) i
or_right a b i h = omega (arith, bit-or a b i, bit-lt a i)

pub at-and : (a b i : ℕ) → At (bit_and a b) i → At a i × At b i
at-and a b i h = omega (arith, bit-and a b i, bit-lt a i, bit-lt b i)

pub and_at : (a b i : ℕ) → At a i → At b i → At (bit_and a b) i
and_at a b i h k = omega (arith, bit-and a b i)

pub at-not : (m a i : ℕ) → i < m → a < 2 ^ m → At ((2 ^ m - 1) - a) i ↔ (At a i → ⊥)
at-not m a i h l = (λ p q. omega (arith, bit_not m i a h l), λ p. omega (arith, bit_not m i a h l, bit-lt a i))

-- a set bit stands below the length
pub at-below : {n x : ℕ} → Wf n x → (i : ℕ) → At x i → i < n
at-below w i h = lt_of_not-le λ g. omega (arith, w.clear i g)

-- a word recorded has no place that a computed one hasn't
pub recorded-computed : {n x : ℕ} → WfRecorded n x → WfComputed n x
recorded-computed w = record { short = omega (arith, w.short); clear = λ i h. w.clear i (omega arith) }

-- a well-formed word of n snapshots is below 2 ^ n
pub wf-lt : {n x : ℕ} → Wf n x → x < 2 ^ n
wf-lt {n} {x} w = clear-lt n x w.clear

pub lt-wf : {n x : ℕ} → n ≤ width → x < 2 ^ n → Wf n x
lt-wf {n} {x} s h = record { short = s; clear = λ i g. bit_high n x i h g }

pub wf-word : {n x : ℕ} → Wf n x → x < 2 ^ width
wf-word w = lt_of_lt_of_le (wf-lt w) (pow_mono w.short)

pub means : {n r : ℕ} {f : Reading} → n ≤ width → ((i : ℕ) → At r i → (i < places n) × f i) → ((i : ℕ) → i < places n → f i → At r i) → Means n r f
means {n} {r} s to from = record {
  wf = record { short = omega arith; clear = λ i h. not_at r i (λ p. let t = to i p in omega arith) };
  holds = λ i h. (λ p. (to i p).1, from i h);
}

-- a reading has one word
pub means-unique : {n a b : ℕ} {f : Reading} → Means n a f → Means n b f → a ≡ b
means-unique {n} {a} {b} p q =
    bits-ext (places n) a b (wf-lt p.wf) (wf-lt q.wf) (λ i h. same i h (at-or-not a i))
  where
    same : (i : ℕ) → i < places n → At a i ⊎ (At a i → ⊥) → bit a i ≡ bit b i
    same i h (inl t) = t ∙ sym ((q.holds i h).1 ((p.holds i h).0 t))
    same i h (inr t) = not_at a i t ∙ sym (not_at b i (λ u. t ((p.holds i h).1 ((q.holds i h).0 u))))

-- a word with a place at or above n that holds, or a well-formed one
pub wf-or-above : {n x : ℕ} → n ≤ width → x < 2 ^ width → ((i : ℕ) × (n ≤ i) × At x i) ⊎ Wf n x
wf-or-above {n} {x} s l =
    ⊎_elim (λ t. inl (t.0, t.1, t.3)) (λ t. inr (record { short = s; clear = λ i h. not_at x i (λ p. let b = at-below (lt-wf {n = width} (omega arith) l) i p in t i h (omega arith) p) }))
    (find (At x) (at-or-not x) (width - n) n)
