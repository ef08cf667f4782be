-- The comparison of two matrices, read at the place of the kept one.
-- Assumes nothing.
use mathlib.Core.Path.{◌≡◌, refl, sym, ap, ◌∙◌, subst}
use mathlib.Core.Logic.{◌⊎◌, inl, inr, ⊎_elim}
use mathlib.Core.List.{List, []}
use Rattle.std.specs.Prelude.{Ok, Err}
use Prim.Native.Nat.{ℕ, ◌+◌, ◌-◌, ◌*◌, ◌≤◌, ◌<◌}
use native.Mathlib.Omega.{arith}
use lib.ListN.{length, get_or, take, drop}
use Rattle.std.specs.List.{AllWithin, HoldsAt, range_with_len}
use Rattle.std.proofs.lemmas.List.FromFn.{length-range_with_len, get_or-range_with_len}
use denote.Enum.Declared.{tag_of}
use Rattle.rules.specs.Limits.{most_sessions, Outside}
use Rattle.rules.specs.declared.refusal.Refusal.TheVariants.{Numbers, Room}
use Rattle.rules.specs.Refusals.{Decided}
use Rattle.comparison.specs.declared.Compared.{Compared}
use Rattle.comparison.specs.declared.Compared.TheVariants.{Equal, Differs}
use Rattle.comparison.specs.contracts.Compared.{the_type}
use Rattle.comparison.specs.Compare.{Same, equal_said, said_compared, compare_rows_with, Compares}
use Rattle.rows.proofs.Parts.{part_at}
use Rattle.leaves.proofs.Products.{next_row}
use Rattle.comparison.specs.Inner.{ComparedAt}

-- the first number of a range that passes, by its place in the range
pub first-from_range : (r j : ℕ) (Yes No : ℕ → Type 0)
    → (j < length (range_with_len 0 r)) × HoldsAt Yes (range_with_len 0 r) j × AllWithin No (range_with_len 0 r) 0 j
    → (j < r) × ((t : ℕ) → t < j → No t) × Yes j
first-from_range r j Yes No (l, y, n) =
    let h : j < r = omega (arith, l, length-range_with_len 0 r) in
    (h, λ t g. subst No (at r t (omega arith)) (n t 0 (omega arith) g), subst Yes (at r j h) (y 0))
  where
    at : (n i : ℕ) → i < n → get_or (range_with_len 0 n) i 0 ≡ i
    at n i g = get_or-range_with_len 0 n i 0 g ∙ (let e : 0 + i ≡ i = omega arith in e)

-- the words of a slice from a word on
abbrev part : List ℕ → ℕ → List ℕ
part s a = take (length s - a) (drop a s)

module _ (r place : ℕ) (matrices rows : List ℕ) where
  -- ---- at its place

  module _ (there : place * r + r ≤ length matrices) where
    row_at : (t : ℕ) → t < r → get_or (part matrices (place * r)) t 0 ≡ get_or matrices (place * r + t) 0
    row_at t h = part_at matrices (place * r) t (omega arith)

    pub same-below : (j : ℕ) → j ≤ r → ((t : ℕ) → t < j → get_or rows t 0 ≡ get_or (part matrices (place * r)) t 0) → Same r matrices rows place j
    same-below j h f t l = f t l ∙ row_at t (omega arith)

    pub differs-here : (j : ℕ) → j < r → (get_or rows j 0 ≡ get_or (part matrices (place * r)) j 0 → ⊥) → get_or rows j 0 ≡ get_or matrices (place * r + j) 0 → ⊥
    differs-here j h n e = n (e ∙ sym (row_at j h))

    -- the comparison that does not answer the place
    pub unequal : (c : Compared) → tag_of the_type c ≡ 1 → ComparedAt r place (part matrices (place * r)) rows c → Same r matrices rows place r → ⊥
    unequal (Equal p) e a s = omega (arith, e)
    unequal (Differs j) e a s = differs-here j.0 a.0 a.2 (s j.0 a.0)

  -- ---- refusals and answers

  pub refused-one : Outside 1 most_sessions r → Compares r place matrices rows (said_compared (Err Numbers))
  unfolding Decided
  refused-one h = record { number = inl (h, refl); refused = λ _. refl; passed = λ e. absurd (omega arith) }

  module _ (low : 1 ≤ r) (high : r ≤ most_sessions) where
    inside : Outside 1 most_sessions r → ⊥
    inside (inl h) = omega arith
    inside (inr h) = omega arith

    pub refused-three : (length matrices < place * r + r) ⊎ (length rows < r) → Compares r place matrices rows (said_compared (Err Room))
    unfolding Decided
    refused-three (inl h) = record {
      number = inr (inside, inl (inl (omega (arith, next_row place r)), refl));
      refused = λ _. refl;
      passed = λ e. absurd (omega arith);
    }
    refused-three (inr h) = record { number = inr (inside, inl (inr h, refl)); refused = λ _. refl; passed = λ e. absurd (omega arith) }

    module _ (there : place * r + r ≤ length matrices) (long : r ≤ length rows) where
      passes : Decided (compare_rows_with r place matrices rows []) 0
      unfolding Decided
      passes = inr (inside, inr (λ g. ⊎_elim (λ h. omega (arith, next_row place r)) (λ h. omega arith) g, refl))

      pub compared : (c : Compared) → ComparedAt r place (part matrices (place * r)) rows c → Compares r place matrices rows (said_compared (Ok c))
      compared (Equal p) (e, s) = record {
        number = passes;
        refused = λ n. absurd (n refl);
        passed = λ _. inl (same-below there r (omega arith) s, ap equal_said e);
      }
      compared (Differs j) (l, s, n) = record {
        number = passes;
        refused = λ n. absurd (n refl);
        passed = λ _. inr (j.0, record { there = l; differs = differs-here there j.0 l n; before = same-below there j.0 (omega arith) s }, refl);
      }
