-- Finding a name in a section's bytes: where one starts, as far as there are bytes, and the bytes that stand there.
-- Assumes nothing.
use mathlib.Core.Path.{◌≡◌, sym, ap, ◌∙◌}
use mathlib.Core.Bool.{Bool, true, false, cond}
use mathlib.Core.List.{List}
use Prim.Native.Nat.{ℕ, zero, suc, ◌+◌, ◌-◌, ◌≤◌, ◌<◌, min}
use native.Mathlib.Decide.{dec_le}
use native.Mathlib.Nat.{lt_of_not-le}
use native.Mathlib.Numerals.{add-one}
use native.Mathlib.Omega.{arith}
use lib.ListN.{length, get_or, take, drop, length-drop, drop_of_length-le, get_or-eq_default}
use lib.Seq.{take-nil, take_all}
use Rattle.std.proofs.Common.{Some, None}
use Rattle.names.specs.Names.{same_bytes}
use Rattle.names.specs.declared.lookup.Span.{Span}
use Rattle.names.specs.Lookup.{names_from, walk_end, LettersAt, find_from, found_in}
use Rattle.names.proofs.Walks.{end_more, walk-on, no_walk}

take-clipped : (n : ℕ) (l : List ℕ) → take (min (length l) n) l ≡ take n l
take-clipped n l =
    elim (dec_le n (length l)) [
      | yes h ↦ let e : min (length l) n ≡ n = omega arith in ap (λ (k : ℕ). take k l) e
      | no h ↦
          let e : min (length l) n ≡ length l = omega (arith, lt_of_not-le h) in
          ap (λ (k : ℕ). take k l) e ∙ take_all (length l) l (omega arith) ∙ sym (take_all n l (omega (arith, lt_of_not-le h)))
    ]

module _ (file : List ℕ) where
  pub first-start : (length file ≡ 0 → ⊥) → 1 ≡ min (length file) (walk_end file 0 1)
  unfolding walk_end
  first-start n = omega arith

  -- a name on
  pub end-next : (i : ℕ) → walk_end file (i + 1) 1 ≡ walk_end file i 1 + 1 + get_or file (walk_end file i 1) 0
  end-next i = ap (λ (k : ℕ). walk_end file k 1) (add-one i) ∙ end_more file i 1

  -- one name on, from where one starts as far as there are bytes
  pub start-turn : (i : ℕ) {at next : ℕ} → at ≡ min (length file) (walk_end file i 1) → next ≡ min (length file) (at + 1 + get_or file at 0) → next ≡ min (length file) (walk_end file (i + 1) 1)
  start-turn i {at} {next} e n =
      let w = walk_end file i 1 in
      let m = end-next i in
      elim (dec_le w (length file)) [
        | yes h ↦
            let s : at ≡ w = omega arith in
            n ∙ ap (λ (k : ℕ). min (length file) (k + 1 + get_or file k 0)) s ∙ ap (min (length file)) (sym m)
        | no h ↦ let l = lt_of_not-le h in omega arith
      ]

  -- a run from one offset to another, cut to what there is, is what stands there
  pub clipped : (x n : ℕ) {from to : ℕ} → from ≡ min (length file) x → to ≡ min (length file) (x + n) → take (to - from) (drop from file) ≡ take n (drop x file)
  clipped x n {from} {to} e d =
      elim (dec_le x (length file)) [
        | yes h ↦
            let s : from ≡ x = omega arith in
            let m : to - from ≡ min (length (drop x file)) n = omega (arith, length-drop x file) in
            ap (λ (k : ℕ). take k (drop from file)) m ∙ ap (λ (k : ℕ). take (min (length (drop x file)) n) (drop k file)) s ∙ take-clipped n (drop x file)
        | no h ↦
            let l = lt_of_not-le h in
            let z : to - from ≡ 0 = omega arith in
            ap (λ (k : ℕ). take k (drop from file)) z ∙ sym (ap (take n) (drop_of_length-le file {i = x} (omega arith)) ∙ take-nil n)
      ]

  -- the letters of a name, where its span is known
  pub letters-there : (p : ℕ) {s : Span} → LettersAt file p s → take (s.to - s.from) (drop s.from file) ≡ take (get_or file (walk_end file p 1) 0) (drop (walk_end file p 1 + 1) file)
  letters-there p {s} l = clipped (walk_end file p 1 + 1) (get_or file (walk_end file p 1) 0) l.from (l.to ∙ ap (min (length file)) (end-next p))

  pub span-order : (p : ℕ) {s : Span} → LettersAt file p s → (s.from ≤ s.to) × (s.to ≤ length file)
  span-order p {s} l = let e = end-next p in let f = l.from in let t = l.to in (omega arith, omega arith)

  pub nothing-there : (word : List ℕ) → length file ≡ 0 → None ≡ found_in file word
  unfolding find_from
  nothing-there word e =
      let z : get_or file 0 0 ≡ 0 = get_or-eq_default file 0 {n = 0} (omega arith) in
      sym (ap (λ (n : ℕ). find_from 0 word (names_from file n 1)) z ∙ ap (find_from 0 word) (no_walk file 1))

-- ---- the names that were not the one looked for

pub record Missed (file word : List ℕ) (count j : ℕ) : Type 0 where
  pub upto : j ≤ count
  pub is : find_from j word (names_from file (count - j) (walk_end file j 1)) ≡ find_from 0 word (names_from file count 1)

module _ (file word : List ℕ) (count : ℕ) where
  pub missed-start : Missed file word count 0
  unfolding walk_end
  missed-start = let z : count - 0 ≡ count = omega arith in record { upto = omega arith; is = rw z }

  module _ {j : ℕ} (r : Missed file word count j) where
    missed-step : j < count → find_from j word (names_from file (count - j) (walk_end file j 1))
        ≡ cond (same_bytes word (take (get_or file (walk_end file j 1) 0) (drop (walk_end file j 1 + 1) file))) (Some j)
        (find_from (j + 1) word (names_from file (count - (j + 1)) (walk_end file (j + 1) 1)))
    unfolding find_from
    missed-step h =
        let m : count - j ≡ suc (count - (j + 1)) = omega arith in
        rw (m, walk-on file (count - (j + 1)) (walk_end file j 1), end-next file j)

    pub missed-turn : j < count → same_bytes word (take (get_or file (walk_end file j 1) 0) (drop (walk_end file j 1 + 1) file)) ≡ false → Missed file word count (j + 1)
    missed-turn h e =
        let b = find_from (j + 1) word (names_from file (count - (j + 1)) (walk_end file (j + 1) 1)) in
        record { upto = omega arith; is = sym (ap (λ (t : Bool). cond t (Some j) b) e) ∙ sym (missed-step h) ∙ r.is }

    pub missed_here : j < count → same_bytes word (take (get_or file (walk_end file j 1) 0) (drop (walk_end file j 1 + 1) file)) ≡ true → Some j ≡ find_from 0 word (names_from file count 1)
    missed_here h e =
        let b = find_from (j + 1) word (names_from file (count - (j + 1)) (walk_end file (j + 1) 1)) in
        sym (ap (λ (t : Bool). cond t (Some j) b) e) ∙ sym (missed-step h) ∙ r.is

    pub missed-end : count ≤ j → None ≡ find_from 0 word (names_from file count 1)
    unfolding find_from
    missed-end h =
        let z : count - j ≡ zero = omega arith in
        sym (ap (find_from j word) (no_walk file (walk_end file j 1))) ∙ ap (λ (k : ℕ). find_from j word (names_from file k (walk_end file j 1))) (sym z) ∙ r.is
