-- Doubling shifts: what one step by d does to a word that looks d places ahead, for any d.
-- Assumes nothing.
use mathlib.Core.Path.{◌≡◌, sym, ◌∙◌, subst}
use mathlib.Core.Logic.{◌↔◌, ◌⊎◌, inl, inr}
use Prim.Native.Nat.{ℕ, ◌+◌, ◌/◌, ◌^◌, ◌≤◌, ◌<◌}
use native.Mathlib.Decide.{dec_lt}
use native.Mathlib.Omega.{arith}
use lib.Bits.{bit_and, bit_or}
use Rattle.words.specs.Ltlf.{Reading}
use Rattle.words.specs.Word.{At}
use Rattle.words.proofs.Bits.{bit-shr, bit-zero}
use Rattle.words.proofs.At.{at-or, or_left, or_right, at-and, and_at}

-- ---- `finally`: f holds at some place of the d from i on
abbrev pub Some : Reading → ℕ → Reading
Some f d i = (j : ℕ) × (i ≤ j) × (j < i + d) × f j

pub some_first : (x i : ℕ) → At x i ↔ Some (At x) 1 i
some_first x i = (λ h. (i, omega arith, omega arith, h), λ t. let e : t.0 ≡ i = omega arith in subst (At x) e t.3)

-- where v looks d places ahead, `v | (v >> d)` looks d + d ahead
pub some-double : {f : Reading} (d v : ℕ) → ((i : ℕ) → At v i ↔ Some f d i) → (i : ℕ) → At (bit_or v (v / 2 ^ d)) i ↔ Some f (d + d) i
some-double {f} d v e i = (λ h. up (at-or v (v / 2 ^ d) i h), λ t. down t (dec_lt t.0 (i + d)))
  where
    up : At v i ⊎ At (v / 2 ^ d) i → Some f (d + d) i
    up (inl h) = let t = (e i).0 h in (t.0, t.1, omega arith, t.3)
    up (inr h) = let t = (e (d + i)).0 (sym (bit-shr v d i) ∙ h) in (t.0, omega arith, omega arith, t.3)

    down : (t : Some f (d + d) i) → Dec (t.0 < i + d) → At (bit_or v (v / 2 ^ d)) i
    down t (yes p) = or_left v (v / 2 ^ d) i ((e i).1 (t.0, t.1, p, t.3))
    down t (no p) = or_right v (v / 2 ^ d) i (bit-shr v d i ∙ (e (d + i)).1 (t.0, omega arith, omega arith, t.3))

-- ---- `until`: f holds at all of the d places from i on; g holds at some of the d places, and f at all before it
abbrev pub All : Reading → ℕ → Reading
All f d i = (k : ℕ) → i ≤ k → k < i + d → f k

abbrev pub Reach : Reading → Reading → ℕ → Reading
Reach f g d i = (j : ℕ) × (i ≤ j) × (j < i + d) × g j × ((k : ℕ) → i ≤ k → k < j → f k)

pub all_first : (x i : ℕ) → At x i ↔ All (At x) 1 i
all_first x i = (λ h k l m. let e : i ≡ k = omega arith in subst (At x) e h, λ t. t i (omega arith) (omega arith))

pub reach-first : {f : Reading} (y i : ℕ) → At y i ↔ Reach f (At y) 1 i
reach-first y i = (λ h. (i, omega arith, omega arith, h, λ k l m. absurd (omega arith)), λ t. let e : t.0 ≡ i = omega arith in subst (At y) e t.3)

pub all-double : {f : Reading} (d v : ℕ) → ((i : ℕ) → At v i ↔ All f d i) → (i : ℕ) → At (bit_and v (v / 2 ^ d)) i ↔ All f (d + d) i
all-double {f} d v e i = (
  λ h k l m. let p = at-and v (v / 2 ^ d) i h in near p k l m (dec_lt k (i + d)),
  λ t. and_at v (v / 2 ^ d) i ((e i).1 (λ k l m. t k l (omega arith))) (bit-shr v d i ∙ (e (d + i)).1 (λ k l m. t k (omega arith) (omega arith))),
)
  where
    near : At v i × At (v / 2 ^ d) i → (k : ℕ) → i ≤ k → k < i + (d + d) → Dec (k < i + d) → f k
    near p k l m (yes q) = (e i).0 p.0 k l q
    near p k l m (no q) = (e (d + i)).0 (sym (bit-shr v d i) ∙ p.1) k (omega arith) (omega arith)

pub reach-double : {f g : Reading} (d v w : ℕ) → ((i : ℕ) → At v i ↔ All f d i) → ((i : ℕ) → At w i ↔ Reach f g d i) → (i : ℕ) → At (bit_or w (bit_and v (w / 2 ^ d))) i ↔ Reach f g (d + d) i
reach-double {f} {g} d v w a e i = (λ h. up (at-or w (bit_and v (w / 2 ^ d)) i h), λ t. down t (dec_lt t.0 (i + d)))
  where
    before : All f d i → (j : ℕ) → ((k : ℕ) → d + i ≤ k → k < j → f k) → (k : ℕ) → i ≤ k → k < j → Dec (k < i + d) → f k
    before p j q k l m (yes b) = p k l b
    before p j q k l m (no b) = q k (omega arith) m

    up : At w i ⊎ At (bit_and v (w / 2 ^ d)) i → Reach f g (d + d) i
    up (inl h) = let t = (e i).0 h in (t.0, t.1, omega arith, t.3, t.4)
    up (inr h) =
        let p = at-and v (w / 2 ^ d) i h in
        let t = (e (d + i)).0 (sym (bit-shr w d i) ∙ p.1) in
        (t.0, omega arith, omega arith, t.3, λ k l m. before ((a i).0 p.0) t.0 t.4 k l m (dec_lt k (i + d)))

    down : (t : Reach f g (d + d) i) → Dec (t.0 < i + d) → At (bit_or w (bit_and v (w / 2 ^ d))) i
    down t (yes p) = or_left w (bit_and v (w / 2 ^ d)) i ((e i).1 (t.0, t.1, p, t.3, t.4))
    down t (no p) =
        or_right w (bit_and v (w / 2 ^ d)) i
        (and_at v (w / 2 ^ d) i ((a i).1 (λ k l m. t.4 k l (omega arith)))
        (bit-shr w d i ∙ (e (d + i)).1 (t.0, omega arith, omega arith, t.3, λ k l m. t.4 k (omega arith) m)))

-- where v has no run of d places, further doublings change nothing: what w reaches within d is all that is reached within any e from d on
pub reach-stop : {f g : Reading} (d e v w : ℕ) → v ≡ 0 → ((i : ℕ) → At v i ↔ All f d i) → ((i : ℕ) → At w i ↔ Reach f g d i) → d ≤ e
    → (i : ℕ) → At w i ↔ Reach f g e i
reach-stop {f} {g} d e v w z a r l i = (λ h. let t = (r i).0 h in (t.0, t.1, omega arith, t.3, t.4), λ t. down t (dec_lt t.0 (i + d)))
  where
    down : (t : Reach f g e i) → Dec (t.0 < i + d) → At w i
    down t (yes p) = (r i).1 (t.0, t.1, p, t.3, t.4)
    down t (no p) =
        let h = subst (λ (v : ℕ). At v i) z ((a i).1 (λ k b m. t.4 k b (omega arith))) in
        absurd (omega (arith, bit-zero i))
