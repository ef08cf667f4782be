-- The decision over session data, row by row.
-- Assumes nothing.
use mathlib.Core.Path.{◌≡◌, refl, sym, ◌∙◌, subst}
use mathlib.Core.Logic.{◌↔◌, ◌⊎◌, inl, inr, ⊎_elim}
use mathlib.Core.Bool.{Bool, true, false, ◌||◌, true≢false}
use mathlib.Core.List.{List}
use Prim.Native.Nat.{ℕ, ◌+◌, ◌*◌, ◌^◌, ◌≤◌, ◌<◌}
use native.Mathlib.Nat.{mul_comm, mul-le-mul_right, suc-mul}
use native.Mathlib.Omega.{arith}
use native.Mathlib.Decide.{dec_le, dec_lt}
use lib.ListN.{length, get_or, take, drop}
use Rattle.std.specs.Prelude.{IsTrue, slice_range}
use Rattle.std.specs.List.{All}
use Rattle.std.proofs.lemmas.List.{get_or-take, get_or-drop, get_or_default, length-take-le, length-drop}
use lib.Dec.{ltb}
use Rattle.words.specs.Word.{width, At, Wf}
use Rattle.words.proofs.At.{find, wf-or-above}
use Rattle.rules.specs.Answers.{Tested}
use Rattle.rules.specs.Refusals.{Decided}
use Rattle.rules.proofs.Answers.{less, either, beyond}
use Rattle.rules.proofs.Refusals.{decided-unique}
use Rattle.rules.specs.Limits.{most_sessions, most_propositions, Outside}
use Rattle.session.specs.Data.{outside_numbers, too_long, bit_above, data_rows}
use Rattle.session.specs.Recording.{recording}
use Rattle.session.specs.Inner.{AllUpTo, WordClear, Clear, AllClear}

module _ (r m : ℕ) (marks lengths words : List ℕ) where
  abbrev D : ℕ → Type 0
  D k = Decided (data_rows (recording r m marks lengths words)) k

  pub is-1 : Outside 1 most_sessions r ⊎ Outside 1 most_propositions m → D 1
  unfolding Decided
  is-1 h = inl (h, refl)

  module _ (n1 : Outside 1 most_sessions r ⊎ Outside 1 most_propositions m → ⊥) where
    pub is-3 : (length marks < r) ⊎ (length lengths < r) ⊎ (length words < m * r) → D 3
    unfolding Decided
    is-3 h = inr (n1, inl (h, refl))

    module _ (n3 : (length marks < r) ⊎ (length lengths < r) ⊎ (length words < m * r) → ⊥) where
      pub is-4 : AllUpTo lengths r width false → D 4
      unfolding Decided
      is-4 h = inr (n1, inr (n3, inl (h, refl)))

      module _ (a4 : AllUpTo lengths r width true) where
        n4 : (too_long (recording r m marks lengths words)).given → ⊥
        n4 t = omega (arith, a4 t.0 t.1, t.2)

        pub is-5 : AllClear lengths words r m false → D 5
        unfolding Decided
        is-5 h = inr (n1, inr (n3, inr (n4, inl ((h.0, h.1, h.2.0, h.2.1, h.2.2, h.2.3, h.2.4), refl))))

        module _ (a5 : AllClear lengths words r m true) where
          n5 : (bit_above (recording r m marks lengths words)).given → ⊥
          n5 t = omega (arith, (a5 t.0 t.1 t.2 t.3).clear t.4 t.5, t.6)

          pub is-6 : AllUpTo marks r 1 false → D 6
          unfolding Decided
          is-6 h = inr (n1, inr (n3, inr (n4, inr (n5, inl (h, refl)))))

          pub is-0 : AllUpTo marks r 1 true → D 0
          unfolding Decided
          is-0 h = inr (n1, inr (n3, inr (n4, inr (n5, inr ((λ t. omega (arith, h t.0 t.1, t.2)), refl)))))

-- a number that isn't above another is at most that
most-of : (n k : ℕ) → (k < n → ⊥) → n ≤ k
most-of n k z = elim (dec_le n k) [ yes y ↦ y | no y ↦ absurd (z (omega arith)) ]

-- ---- what the tests over slices say

-- so many words are left from there on
room : (words : List ℕ) (from m : ℕ) → from + m ≤ length words → m ≤ length (drop from words)
room words from m h = omega (arith, length-drop from words)

-- of the first n numbers
pub up-to-is : (list : List ℕ) (n most : ℕ) (b : Bool) → n ≤ length list → (IsTrue b ↔ All (λ x. x ≤ most) (take n list)) → AllUpTo list n most b
up-to-is list n most true h e = λ i g. subst (λ (x : ℕ). x ≤ most) (get_or-take n list i 0 g) (e.0 refl i 0 (omega (arith, length-take-le n list h)))
up-to-is list n most false h e =
    ⊎_elim (λ t. (t.0, omega (arith, t.2), t.3)) (λ z. absurd (true≢false (sym (e.1 (fits z)))))
    (find (λ i. most < get_or list i 0) (λ i. elim (dec_lt most (get_or list i 0)) [ yes y ↦ inl y | no q ↦ inr q ]) n 0)
  where
    fits : ((i : ℕ) → 0 ≤ i → i < 0 + n → most < get_or list i 0 → ⊥) → All (λ x. x ≤ most) (take n list)
    fits z i d g =
        let l : i < n = omega (arith, length-take-le n list h) in
        let a : get_or list i 0 ≤ most = most-of (get_or list i 0) most (z i (omega arith) (omega arith)) in
        subst (λ (x : ℕ). x ≤ most) (sym (get_or-take n list i d l ∙ get_or_default list i d 0 (omega arith))) a

-- of the m words from `from` on
clear-are : (words : List ℕ) (from m n : ℕ) (b : Bool) → n ≤ width → from + m ≤ length words → ((i : ℕ) → get_or words i 0 < 2 ^ width)
    → (IsTrue b ↔ All (λ w. WordClear n w) (take m (drop from words))) → Clear words from m n b
unfolding WordClear
clear-are words from m n true s h f e =
    λ p g. subst (Wf n) (get_or-take m (drop from words) p 0 g ∙ get_or-drop from words p 0) (e.0 refl p 0 (omega (arith, length-take-le m (drop from words) (room words from m h))))
clear-are words from m n false s h f e =
    ⊎_elim (λ t. (t.0, omega (arith, t.2), t.3.0, t.3.1, t.3.2)) (λ z. absurd (true≢false (sym (e.1 (fits z)))))
    (find (λ p. Above p) (λ p. ⊎_elim inl (λ w. inr (λ t. not-above p w t)) (wf-or-above {n = n} {x = get_or words (from + p) 0} s (f (from + p)))) m 0)
  where
    Above : ℕ → Type 0
    Above p = (b : ℕ) × (n ≤ b) × At (get_or words (from + p) 0) b

    not-above : (p : ℕ) → Wf n (get_or words (from + p) 0) → Above p → ⊥
    not-above p w t = omega (arith, w.clear t.0 t.1, t.2)

    clear-at : (p : ℕ) → (Above p → ⊥) → Wf n (get_or words (from + p) 0)
    clear-at p z = ⊎_elim (λ t. absurd (z t)) (λ w. w) (wf-or-above {n = n} {x = get_or words (from + p) 0} s (f (from + p)))

    fits : ((p : ℕ) → 0 ≤ p → p < 0 + m → Above p → ⊥) → All (λ w. WordClear n w) (take m (drop from words))
    fits z p d g =
        let l : p < m = omega (arith, length-take-le m (drop from words) (room words from m h)) in
        subst (Wf n) (sym (get_or-take m (drop from words) p d l ∙ get_or-drop from words p d ∙ get_or_default words (from + p) d 0 (omega arith))) (clear-at p (z p (omega arith) (omega arith)))

pub clear-is : (words : List ℕ) (from m n : ℕ) (b : Bool) → n ≤ width → from + m ≤ length words → ((i : ℕ) → get_or words i 0 < 2 ^ width)
    → (IsTrue b ↔ All (λ w. WordClear n w) (slice_range words from (from + m))) → Clear words from m n b
clear-is words from m n b s h f e = clear-are words from m n b s h f (subst (λ (k : ℕ). IsTrue b ↔ All (λ w. WordClear n w) (take k (drop from words))) (omega arith) e)

-- the tests of numbers and of rooms are made at once
pub numbers-tested : (r m : ℕ) → Tested (outside_numbers r m).given ((ltb r 1 || ltb most_sessions r) || (ltb m 1 || ltb most_propositions m))
numbers-tested r m =
    either (Outside 1 most_sessions r) (Outside 1 most_propositions m) (ltb r 1 || ltb most_sessions r) (ltb m 1 || ltb most_propositions m) (beyond 1 most_sessions r)
    (beyond 1 most_propositions m)

pub rooms-tested : (r m marks lengths words : ℕ) → Tested ((marks < r) ⊎ (lengths < r) ⊎ (words < m * r)) (ltb marks r || (ltb lengths r || ltb words (m * r)))
rooms-tested r m marks lengths words =
    either (marks < r) ((lengths < r) ⊎ (words < m * r)) (ltb marks r) (ltb lengths r || ltb words (m * r)) (less marks r)
    (either (lengths < r) (words < m * r) (ltb lengths r) (ltb words (m * r)) (less lengths r) (less words (m * r)))

-- r and m are within their numbers
pub numbers-in : (r m : ℕ) → ((outside_numbers r m).given → ⊥) → (1 ≤ r) × (r ≤ most_sessions) × (1 ≤ m) × (m ≤ most_propositions)
numbers-in r m h = (most-of 1 r (λ x. h (inl (inl x))), most-of r most_sessions (λ x. h (inl (inr x))), most-of 1 m (λ x. h (inr (inl x))), most-of m most_propositions (λ x. h (inr (inr x))))

-- and the slices long enough
pub rooms_in : (r m marks lengths words : ℕ) → ((marks < r) ⊎ (lengths < r) ⊎ (words < m * r) → ⊥) → (r ≤ marks) × (r ≤ lengths) × (m * r ≤ words)
rooms_in r m marks lengths words h = (most-of r marks (λ x. h (inl x)), most-of r lengths (λ x. h (inr (inl x))), most-of (m * r) words (λ x. h (inr (inr x))))

-- the numbers are right
pub inside : (r m : ℕ) → 1 ≤ r → r ≤ most_sessions → 1 ≤ m → m ≤ most_propositions → Outside 1 most_sessions r ⊎ Outside 1 most_propositions m → ⊥
inside r m a b c d (inl (inl h)) = omega arith
inside r m a b c d (inl (inr h)) = omega arith
inside r m a b c d (inr (inl h)) = omega arith
inside r m a b c d (inr (inr h)) = omega arith

-- and so is the room
pub roomy : (r m : ℕ) (marks lengths words : List ℕ) → r ≤ length marks → r ≤ length lengths → m * r ≤ length words
    → (length marks < r) ⊎ (length lengths < r) ⊎ (length words < m * r) → ⊥
roomy r m marks lengths words a b c (inl h) = omega arith
roomy r m marks lengths words a b c (inr (inl h)) = omega arith
roomy r m marks lengths words a b c (inr (inr h)) = omega arith

-- the words of session i lie within those of r sessions
pub block : (i r m : ℕ) → i < r → i * m + m ≤ m * r
block i r m h = omega (arith, suc-mul i m, mul-le-mul_right m h, mul_comm m r)

-- any two allowed results of `test` are equal
pub data-unique : (r m : ℕ) (marks lengths words : List ℕ) (j k : ℕ) → Decided (data_rows (recording r m marks lengths words)) j → Decided (data_rows (recording r m marks lengths words)) k → j ≡ k
data-unique r m marks lengths words j k p q = decided-unique (data_rows (recording r m marks lengths words)) j k p q
