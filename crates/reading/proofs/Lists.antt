-- Membership as the rule of the first offending byte tests it is membership; a name is the same as another where all its bytes are.
-- Assumes nothing.
use mathlib.Core.Path.{◌≡◌, refl, sym, ap, ◌∙◌}
use mathlib.Core.Logic.{◌⊎◌, inl, inr}
use mathlib.Core.Bool.{Bool, true, false, ◌&&◌, ◌||◌}
use mathlib.Core.List.Memᴰ
use mathlib.Core.List.{List, [], ◌∷◌, flat_map, Memᴰ}
use Prim.Native.Nat.{ℕ, ◌≤◌}
use native.Mathlib.Omega.{arith}
use borrow.Author.Tests.{le-leb, leb-true}
use lib.Dec.{leb}
use Rattle.reading.specs.Reading.{one, is_in, within}

-- ---- tests

pub true-false : {b : Bool} → b ≡ true → b ≡ false → ⊥
true-false p q = let z : ◌≡◌ {A = Bool} true false = sym p ∙ q in let n : ◌≡◌ {A = ℕ} 0 1 = cc in omega arith

pub and_first : (a b : Bool) → (a && b) ≡ true → a ≡ true
and_first true b e = refl
and_first false b e = e

pub and_second : (a b : Bool) → (a && b) ≡ true → b ≡ true
and_second true b e = e
and_second false b e = absurd (true-false {b = false} e refl)

pub and_both : (a b : Bool) → a ≡ true → b ≡ true → (a && b) ≡ true
and_both a b p q = rw (p, q)

pub and-on : {b : Bool} (rest : Bool) → b ≡ true → (b && rest) ≡ rest
and-on rest e = rw e

pub and-stop : {b : Bool} (rest : Bool) → b ≡ false → (b && rest) ≡ false
and-stop rest e = rw e

pub or-on : {b : Bool} (rest : Bool) → b ≡ false → (b || rest) ≡ rest
or-on rest e = rw e

pub or-stop : {b : Bool} (rest : Bool) → b ≡ true → (b || rest) ≡ true
or-stop rest e = rw e

pub or-first : (a b : Bool) → (a || b) ≡ false → a ≡ false
or-first true b e = absurd (true-false {b = true} refl e)
or-first false b e = refl

pub or-second : (a b : Bool) → (a || b) ≡ false → b ≡ false
or-second true b e = absurd (true-false {b = true} refl e)
or-second false b e = e

pub within_low : (lo hi b : ℕ) → within lo hi b ≡ true → lo ≤ b
within_low lo hi b e = leb-true lo b (and_first (leb lo b) (leb b hi) e)

pub within-high : (lo hi b : ℕ) → within lo hi b ≡ true → b ≤ hi
within-high lo hi b e = leb-true b hi (and_second (leb lo b) (leb b hi) e)

pub within-is : (lo hi b : ℕ) → lo ≤ b → b ≤ hi → within lo hi b ≡ true
within-is lo hi b p q = and_both (leb lo b) (leb b hi) (le-leb lo b p) (le-leb b hi q)

-- ---- membership

module _ {A : Type 0} (same : A → A → Bool) (x : A) where
  pub not_in : ((y : A) → x ≡ y → same x y ≡ true) → (l : List A) → is_in same x l ≡ false → Memᴰ x l → ⊥
  not_in s [] e m = Memᴰ.not-nil m
  not_in s (y ∷ ys) e m = step (λ q m'. not_in s ys q m') (same x y) refl (Memᴰ.cases_cons m)
    where
      step : (is_in same x ys ≡ false → Memᴰ x ys → ⊥) → (b : Bool) → same x y ≡ b → (x ≡ y) ⊎ Memᴰ x ys → ⊥
      step below b q (inl p) = true-false (ap (λ (t : Bool). t || is_in same x ys) (s y p)) e
      step below true q (inr m') = true-false (ap (λ (t : Bool). t || is_in same x ys) q) e
      step below false q (inr m') = below (sym (ap (λ (t : Bool). t || is_in same x ys) q) ∙ e) m'

  pub in-not : ((y : A) → same x y ≡ true → x ≡ y) → (l : List A) → (Memᴰ x l → ⊥) → is_in same x l ≡ false
  in-not s [] n = refl
  in-not s (y ∷ ys) n = step (in-not s ys (λ m. n (Memᴰ.tail m))) (same x y) refl
    where
      step : is_in same x ys ≡ false → (b : Bool) → same x y ≡ b → (same x y || is_in same x ys) ≡ false
      step below true q = absurd (n (Memᴰ.head (s y q)))
      step below false q = ap (λ (t : Bool). t || is_in same x ys) q ∙ below

-- ---- parts of one byte

pub ones : (l : List ℕ) → flat_map one l ≡ l
unfolding flat_map
ones [] = refl
ones (b ∷ l) = ap (λ (r : List ℕ). b ∷ r) (ones l)
