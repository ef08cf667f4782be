-- The names of a section one after another, as the code walks over them, and a name among them.
-- Assumes nothing.
use mathlib.Core.Path.{◌≡◌, refl, sym, ap, ◌∙◌}
use mathlib.Core.Bool.{true, false, ◌||◌}
use mathlib.Core.List.{List, [], ◌∷◌, ◌++◌}
use Prim.Native.Nat.{ℕ, zero, suc, ◌+◌, ◌-◌, ◌≤◌, ◌<◌}
use native.Mathlib.Omega.{arith}
use lib.ListN.{get_or, take, drop}
use Rattle.reading.specs.Reading.{is_in}
use Rattle.names.specs.Names.{same_bytes}
use Rattle.names.specs.Lookup.{names_from, walk_end}
use Rattle.reading.proofs.Lists.{or-on, or-stop}

module _ (file : List ℕ) where
  pub walk_more : (i p : ℕ) → names_from file (suc i) p ≡ names_from file i p ++ (take (get_or file (walk_end file i p) 0) (drop (walk_end file i p + 1) file) ∷ [])
  unfolding names_from walk_end
  walk_more zero p = refl
  walk_more (suc i) p = ap (λ (l : List (List ℕ)). take (get_or file p 0) (drop (p + 1) file) ∷ l) (walk_more i (p + 1 + get_or file p 0))

  pub end_more : (i p : ℕ) → walk_end file (suc i) p ≡ walk_end file i p + 1 + get_or file (walk_end file i p) 0
  unfolding walk_end
  end_more zero p = refl
  end_more (suc i) p = end_more i (p + 1 + get_or file p 0)

  pub end-up : (i p : ℕ) → p ≤ walk_end file i p
  unfolding walk_end
  end-up zero p = omega arith
  end-up (suc i) p = omega (arith, end-up i (p + 1 + get_or file p 0))

  -- one name on
  pub walk-on : (i p : ℕ) → names_from file (suc i) p ≡ take (get_or file p 0) (drop (p + 1) file) ∷ names_from file i (p + 1 + get_or file p 0)
  unfolding names_from
  walk-on i p = refl

  pub end_on : (i p : ℕ) → walk_end file (suc i) p ≡ walk_end file i (p + 1 + get_or file p 0)
  unfolding walk_end
  end_on i p = refl

  pub no_walk : (p : ℕ) → names_from file zero p ≡ []
  unfolding names_from
  no_walk p = refl

-- ---- a name, none of the first j

pub record Known (file name : List ℕ) (count j p : ℕ) : Type 0 where
  pub upto : j ≤ count
  pub is : is_in same_bytes name (names_from file (count - j) p) ≡ is_in same_bytes name (names_from file count 1)
  pub ends : walk_end file (count - j) p ≡ walk_end file count 1

module _ (file name : List ℕ) (count : ℕ) where
  pub known_start : Known file name count 0 1
  known_start = let z : count - 0 ≡ count = omega arith in record { upto = omega arith; is = rw z; ends = rw z }

  module _ {j p : ℕ} (r : Known file name count j p) where
    known-ends : j < count → walk_end file (count - (j + 1)) (p + 1 + get_or file p 0) ≡ walk_end file count 1
    known-ends h =
        let m : count - j ≡ suc (count - (j + 1)) = omega arith in
        sym (end_on file (count - (j + 1)) p) ∙ ap (λ (k : ℕ). walk_end file k p) (sym m) ∙ r.ends

    known_step : j < count → is_in same_bytes name (names_from file (count - j) p) ≡
        (same_bytes name (take (get_or file p 0) (drop (p + 1) file)) || is_in same_bytes name (names_from file (count - (j + 1)) (p + 1 + get_or file p 0)))
    known_step h =
        let m : count - j ≡ suc (count - (j + 1)) = omega arith in
        rw (m, walk-on file (count - (j + 1)) p)

    -- the next name lies before the end of them all
    pub known-room : j < count → p + 1 + get_or file p 0 ≤ walk_end file count 1
    known-room h = omega (arith, end-up file (count - (j + 1)) (p + 1 + get_or file p 0), known-ends h)

    pub known-turn : j < count → same_bytes name (take (get_or file p 0) (drop (p + 1) file)) ≡ false → Known file name count (j + 1) (p + 1 + get_or file p 0)
    known-turn h e =
        record {
          upto = omega arith;
          is = sym (or-on _ e) ∙ sym (known_step h) ∙ r.is;
          ends = known-ends h;
        }

    pub known-here : j < count → same_bytes name (take (get_or file p 0) (drop (p + 1) file)) ≡ true → true ≡ is_in same_bytes name (names_from file count 1)
    known-here h e = sym (or-stop _ e) ∙ sym (known_step h) ∙ r.is

    pub known-end : count ≤ j → false ≡ is_in same_bytes name (names_from file count 1)
    known-end h = let z : count - j ≡ zero = omega arith in sym (ap (is_in same_bytes name) (no_walk file p)) ∙ (rw z at r.is)
