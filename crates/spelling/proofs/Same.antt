-- Equal bytes: two runs are the same where all their bytes are.
-- Assumes nothing.
use mathlib.Core.Path.{◌≡◌, refl, ap}
use mathlib.Core.Bool.{Bool, true, ◌&&◌, ◌||◌}
use mathlib.Core.List.{List, [], ◌∷◌}
use Prim.Native.Nat.{ℕ}
use borrow.Author.Tests.{eq-eqb, eqb-true}
use lib.Pointwise.{pointwise}
use lib.Dec.{eqb}
use Rattle.reading.proofs.Lists.{true-false, and_first, and_second, and_both}
use Rattle.spelling.specs.Spelling.{same_bytes}

pub same_refl : (xs : List ℕ) → same_bytes xs xs ≡ true
same_refl [] = refl
same_refl (x ∷ xs) = and_both (eqb x x) (same_bytes xs xs) (eq-eqb x x refl) (same_refl xs)

pub same-eq : (xs ys : List ℕ) → same_bytes xs ys ≡ true → xs ≡ ys
same-eq [] [] e = refl
same-eq [] (y ∷ ys) e = absurd (true-false e refl)
same-eq (x ∷ xs) [] e = absurd (true-false e refl)
same-eq (x ∷ xs) (y ∷ ys) e =
    let p = eqb-true x y (and_first (eqb x y) (same_bytes xs ys) e) in
    let q = same-eq xs ys (and_second (eqb x y) (same_bytes xs ys) e) in
    rw (p, q)

-- the library's comparison is the rule's
pub equal_is : (xs ys : List ℕ) → pointwise eqb xs ys ≡ same_bytes xs ys
equal_is [] [] = refl
equal_is [] (y ∷ ys) = refl
equal_is (x ∷ xs) [] = refl
equal_is (x ∷ xs) (y ∷ ys) = ap (λ (b : Bool). eqb x y && b) (equal_is xs ys)
