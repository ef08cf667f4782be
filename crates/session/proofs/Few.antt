-- Numbers of a range of n, none twice: there are at most n of them.
-- Assumes nothing.
use mathlib.Core.Path.{◌≡◌, refl, sym}
use mathlib.Core.Bool.{Bool, true, false, cond}
use mathlib.Core.List.Memᴰ
use mathlib.Core.List.{List, [], ◌∷◌, ◌++◌, Memᴰ}
use Prim.Native.Nat.{ℕ, zero, suc, ◌+◌, ◌≤◌, ◌<◌}
use native.Mathlib.Omega.{arith}
use native.Mathlib.Nat.{lt_of_not-le}
use borrow.Author.Tests.{eqb-true, eqb-false, ne_eqb}
use lib.Dec.{eqb}
use lib.ListN.{length}
use Rattle.rules.specs.Lists.{Each}

-- how often c is in a list
times : ℕ → List ℕ → ℕ
times c [] = 0
times c (a ∷ l) = cond (eqb c a) (suc (times c l)) (times c l)

-- how many of a list are one of the n numbers from lo on
among : ℕ → ℕ → List ℕ → ℕ
among lo zero l = 0
among lo (suc n) l = among lo n l + times (lo + n) l

times-other : (c a : ℕ) (l : List ℕ) → eqb c a ≡ false → times c (a ∷ l) ≡ times c l
unfolding times
times-other c a l e = rw e

times-same : (c a : ℕ) (l : List ℕ) → eqb c a ≡ true → times c (a ∷ l) ≡ suc (times c l)
unfolding times
times-same c a l e = rw e

among-out : (lo n a : ℕ) (l : List ℕ) → lo + n ≤ a → among lo n (a ∷ l) ≡ among lo n l
unfolding among
among-out lo zero a l h = refl
among-out lo (suc n) a l h =
    let o : lo + n < a = omega arith in
    rw (among-out lo n a l (omega arith), times-other (lo + n) a l (ne_eqb (lo + n) a (λ q. omega arith)))

among_in : (lo n a : ℕ) (l : List ℕ) → lo ≤ a → a < lo + n → among lo n (a ∷ l) ≡ suc (among lo n l)
unfolding among
among_in lo zero a l p q = absurd (omega arith)
among_in lo (suc n) a l p q = go (among_in lo n a l p) (eqb (lo + n) a) refl
  where
    go : (a < lo + n → among lo n (a ∷ l) ≡ suc (among lo n l)) → (b : Bool) → eqb (lo + n) a ≡ b → among lo n (a ∷ l) + times (lo + n) (a ∷ l) ≡ suc (among lo n l + times (lo + n) l)
    go below true e =
        let h = eqb-true (lo + n) a e in
        let out = among-out lo n a l (omega arith) in
        let same = times-same (lo + n) a l e in
        omega arith
    go below false e =
        let h : a < lo + n = lt_of_not-le λ g. eqb-false (lo + n) a e (omega arith) in
        let inside = below h in
        let other = times-other (lo + n) a l e in
        omega arith

module _ (lo n : ℕ) (fit : List ℕ → ℕ → Type 0) (low : (before : List ℕ) (c : ℕ) → fit before c → lo ≤ c)
    (high : (before : List ℕ) (c : ℕ) → fit before c → c < lo + n) (new : (before : List ℕ) (c : ℕ) → fit before c → Memᴰ c before → ⊥) where
  absent : (c : ℕ) (l before : List ℕ) → Each fit before l → Memᴰ c before → times c l ≡ 0
  unfolding Each times
  absent c [] before e m = refl
  absent c (a ∷ l) before e m = go (absent c l (before ++ (a ∷ [])) e.1 (Memᴰ.append_left (a ∷ []) m)) (eqb c a) refl
    where
      go : times c l ≡ 0 → (b : Bool) → eqb c a ≡ b → cond (eqb c a) (suc (times c l)) (times c l) ≡ 0
      go below true q = absurd (new before a e.0 (Memᴰ.cast (sym (eqb-true c a q)) m))
      go below false q = rw q below

  once : (c : ℕ) (l before : List ℕ) → Each fit before l → times c l ≤ 1
  unfolding Each times
  once c [] before e = omega arith
  once c (a ∷ l) before e = go (once c l (before ++ (a ∷ [])) e.1) (eqb c a) refl
    where
      go : times c l ≤ 1 → (b : Bool) → eqb c a ≡ b → cond (eqb c a) (suc (times c l)) (times c l) ≤ 1
      go below true q =
          let z = absent c l (before ++ (a ∷ [])) e.1 (Memᴰ.append_right before (Memᴰ.head (eqb-true c a q))) in
          rw (q, z) (omega arith)
      go below false q = rw q below

  at_most : (k : ℕ) (l : List ℕ) → Each fit [] l → among lo k l ≤ k
  unfolding among
  at_most zero l e = omega arith
  at_most (suc k) l e = omega (arith, at_most k l e, once (lo + k) l [] e)

  all_among : (l before : List ℕ) → Each fit before l → length l ≤ among lo n l
  unfolding Each
  all_among [] before e = omega arith
  all_among (a ∷ l) before e = rw (among_in lo n a l (low before a e.0) (high before a e.0)) (omega (arith, all_among l (before ++ (a ∷ [])) e.1))

  pub few : (l : List ℕ) → Each fit [] l → length l ≤ n
  few l e = omega (arith, all_among l [] e, at_most n l e)
