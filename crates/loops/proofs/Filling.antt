-- A slice filled from its start: what holds of the words so far holds after one more is written.
-- Assumes nothing.
use mathlib.Core.Path.{◌≡◌, refl, sym, ◌∙◌, subst}
use mathlib.Core.List.{List}
use Prim.Native.Nat.{ℕ, ◌+◌, ◌≤◌, ◌<◌}
use native.Mathlib.Omega.{arith}
use lib.ListN.{length, set, length-set}
use lib.Seq.{get_or-set_same, get_or-set_other}
use borrow.Author.Count.{below_more}
use Rattle.loops.specs.Loops.{Filled}

pub filled_more : {P : ℕ → ℕ → Type 0} {old new : List ℕ} {j w : ℕ} → j < length old → Filled j old P new → P j w → Filled (j + 1) old P (set new j w)
filled_more {P} {old} {new} {j} {w} h f p = record {
  long = length-set new j w ∙ f.long;
  words = below_more _ j (λ t l. subst (P t) (sym (get_or-set_other new j t w 0 (λ e. omega arith))) (f.words t l))
      (subst (P j) (sym (get_or-set_same new j w 0 (omega (arith, f.long)))) p);
  rest = λ t l. get_or-set_other new j t w 0 (λ e. omega arith) ∙ f.rest t (omega arith);
}

-- the same words by another reading
pub filled-as : {P Q : ℕ → ℕ → Type 0} {old new : List ℕ} {r : ℕ} → ((j w : ℕ) → j < r → P j w → Q j w) → Filled r old P new → Filled r old Q new
filled-as t f = record { long = f.long; words = λ j h. t j _ h (f.words j h); rest = f.rest }
