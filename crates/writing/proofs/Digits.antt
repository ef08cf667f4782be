-- The digits of a number: how many there are, and how they are written one after the other.
-- Assumes nothing.
use mathlib.Core.Path.{◌≡◌, refl, sym, ap, ◌∙◌, subst}
use mathlib.Core.Bool.{Bool, true, false, cond}
use mathlib.Core.List.{List, [], ◌∷◌, ◌++◌}
use Prim.Native.Nat.{ℕ, zero, suc, ◌-◌, ◌/◌, ◌%◌, ◌≤◌, ◌<◌}
use native.Mathlib.Omega.{arith}
use lib.Dec.{ltb}
use borrow.Author.Tests.{lt-ltb, le-ltb}
use lib.ListN.{length, take, length-append}
use lib.Seq.{sets-eq, take-append_seam}
use Rattle.writing.specs.Writing.{Wrote, digit, digits}
use Rattle.writing.proofs.Writing.{wrote-both, wrote-whole, wrote-length}

one_more : (k n : ℕ) (l : List ℕ) → length l ≤ k → (b : Bool) → length (cond b (digit n ∷ []) (l ++ (digit (n % 10) ∷ []))) ≤ suc k
one_more k n l h true = omega arith
one_more k n l h false = let e = length-append l (digit (n % 10) ∷ []) in omega arith

pub few-digits : (k n : ℕ) → length (digits k n) ≤ k
unfolding digits
few-digits zero n = omega arith
few-digits (suc k) n = one_more k n (digits k (n / 10)) (few-digits k (n / 10)) (ltb n 10)

digits-one : (most x : ℕ) → (most ≡ 0 → ⊥) → x < 10 → digits most x ≡ digit x ∷ []
unfolding digits
digits-one zero x h l = absurd (h refl)
digits-one (suc k) x h l = rw (lt-ltb x 10 l)

digits_more : (most x : ℕ) → (most ≡ 0 → ⊥) → 10 ≤ x → digits most x ≡ digits (most - 1) (x / 10) ++ (digit (x % 10) ∷ [])
unfolding digits
digits_more zero x h l = absurd (h refl)
digits_more (suc k) x h l = let e : suc k - 1 ≡ k = omega arith in rw (le-ltb x 10 l, e)

-- ---- as they are written

pub no-digits : (l : List ℕ) (at most x : ℕ) → most ≡ 0 → Wrote l at (digits most x) l at
unfolding digits
no-digits l at most x e = subst (λ (k : ℕ). Wrote l at (digits k x) l at) (sym e) (record { next = omega arith; holds = refl })

pub one-digit : {l m : List ℕ} {at r : ℕ} (most x : ℕ) → (most ≡ 0 → ⊥) → x < 10 → Wrote l at (digit x ∷ []) m r → Wrote l at (digits most x) m r
one-digit {l} {m} {at} {r} most x h g w = subst (λ (u : List ℕ). Wrote l at u m r) (sym (digits-one most x h g)) w

pub more-digits : {l m n : List ℕ} {at a b : ℕ} (most x : ℕ) → (most ≡ 0 → ⊥) → 10 ≤ x → Wrote l at (digits (most - 1) (x / 10)) m a → Wrote m a (digit (x % 10) ∷ []) n b
    → Wrote l at (digits most x) n b
more-digits {l} {m} {n} {at} {a} {b} most x h g v w =
    subst (λ (u : List ℕ). Wrote l at u n b) (sym (digits_more most x h g)) (wrote-both (digits (most - 1) (x / 10)) (digit (x % 10) ∷ []) v w)

-- what was written at the start of a text that has the room
pub written-front : {l m : List ℕ} {n : ℕ} (u : List ℕ) → length u ≤ length l → Wrote l 0 u m n → (n ≤ length m) × (take n m ≡ u)
written-front {l} {m} {n} u h w =
    let e : n ≡ length u = omega (arith, wrote-whole u w (omega arith)) in
    let k = wrote-length u w in (
      omega arith,
      ap (λ (x : ℕ). take x m) e ∙ ap (take (length u)) (w.holds ∙ sets-eq u l 0 (omega arith)) ∙ take-append_seam u _,
    )
