-- What finding a word among names answers: the number of a name with its bytes, or that there is none.
-- Assumes nothing.
use mathlib.Core.Path.{◌≡◌, refl, sym}
use mathlib.Core.Logic.{⊎_elim}
use mathlib.Core.Bool.{Bool, true, false, cond, ◌||◌}
use mathlib.Core.List.Memᴰ
use mathlib.Core.List.{List, [], ◌∷◌, Memᴰ}
use Prim.Native.Nat.{ℕ, suc, ◌+◌, ◌-◌, ◌≤◌, ◌<◌}
use native.Mathlib.Omega.{arith}
use lib.ListN.{length, get_or}
use Rattle.reading.specs.Reading.{is_in}
use Rattle.reading.proofs.Lists.{true-false, not_in}
use Rattle.std.proofs.Common.{Option, Some, None}
use Rattle.names.specs.Names.{same_bytes}
use Rattle.names.specs.Lookup.{find_from}
use Rattle.spelling.proofs.Same.{same_refl, same-eq}

-- among names that are numbered from i on
abbrev pub FoundIs : List ℕ → List (List ℕ) → ℕ → Option ℕ → Type 0
FoundIs w names i (Some k) = (i ≤ k) × (k < i + length names) × (get_or names (k - i) [] ≡ w) × Memᴰ w names
FoundIs w names i None = Memᴰ w names → ⊥

pub found-is : (w : List ℕ) (names : List (List ℕ)) (i : ℕ) → FoundIs w names i (find_from i w names)
unfolding find_from
found-is w [] i = λ m. Memᴰ.not-nil m
found-is w (x ∷ names) i = by-test (same_bytes w x) refl (find_from (i + 1) w names) (found-is w names (i + 1))
  where
    by-test : (b : Bool) → same_bytes w x ≡ b → (f : Option ℕ) → FoundIs w names (i + 1) f → FoundIs w (x ∷ names) i (cond b (Some i) f)
    by-test true e f h = let z : i - i ≡ 0 = omega arith in (omega arith, omega arith, rw z (sym (same-eq w x e)), Memᴰ.head (same-eq w x e))
    by-test false e (Some k) h = let z : k - i ≡ suc (k - (i + 1)) = omega (arith, h.0) in (omega (arith, h.0), omega (arith, h.1), rw z h.2, Memᴰ.tail h.3)
    by-test false e None h = λ m. ⊎_elim (λ q. true-false (rw (← q) (same_refl w)) e) h (Memᴰ.cases_cons m)

-- ---- a test of membership that holds

pub is-in : (w : List ℕ) (l : List (List ℕ)) → is_in same_bytes w l ≡ true → Memᴰ w l
is-in w [] e = absurd (true-false e refl)
is-in w (x ∷ l) e = by-test (same_bytes w x) refl e (is-in w l)
  where
    by-test : (b : Bool) → same_bytes w x ≡ b → (b || is_in same_bytes w l) ≡ true → (is_in same_bytes w l ≡ true → Memᴰ w l) → Memᴰ w (x ∷ l)
    by-test true q h below = Memᴰ.head (same-eq w x q)
    by-test false q h below = Memᴰ.tail (below h)

pub not-is-in : (w : List ℕ) (l : List (List ℕ)) → is_in same_bytes w l ≡ false → Memᴰ w l → ⊥
not-is-in w l e m = not_in same_bytes w (λ y p. rw (← p) (same_refl w)) l e m
