-- The comparison at the boundary: the matrix at a place is the first of what is lent from there on.
-- Assumes nothing.
use mathlib.Core.Path.{◌≡◌, refl, sym, ap, ◌∙◌}
use mathlib.Core.Logic.{inl, inr, ⊎_elim}
use mathlib.Core.List.{List, []}
use Prim.Native.Nat.{ℕ, ◌+◌, ◌-◌, ◌*◌, ◌/◌, ◌≤◌, ◌<◌}
use native.Mathlib.Omega.{arith}
use native.Mathlib.Nat.{zero-mul, div-lt_iff_lt-mul, lt_of_not-le}
use native.Mathlib.Decide.{dec_le, ℕ_discrete}
use lib.ListN.{length, get_or, take, drop}
use Rattle.std.specs.Prelude.{Result, Ok, Err}
use Rattle.rules.specs.Limits.{most_sessions, Outside}
use Rattle.rules.specs.Refusals.{Decided, refusal_number}
use Rattle.rules.specs.declared.refusal.Refusal.{Refusal}
use Rattle.rules.proofs.Refusals.{decided-unique, refusal-positive}
use Rattle.rules.specs.Answers.{Said}
use Rattle.comparison.specs.declared.Compared.{Compared}
use Rattle.comparison.specs.declared.Compared.TheVariants.{Equal, Differs}
use Rattle.comparison.specs.Compare.{Same, said_compared, compare_rows_with, CompareOutcome, Compares}
use Rattle.comparison.proofs.Unique.{equal-one, differs-one, outcome-unique}
use Rattle.rows.proofs.Parts.{part_at, part-long}
use Rattle.leaves.proofs.Products.{next_row}
use Rattle.out.specs.Out.{out_words, written, said_words}
use Rattle.out_compare.specs.Compare.{compare_rows, CompareDone}
use Rattle.out_compare.specs.Inner.{length_rows, Answers, put_said}

-- ---- what is refused

module _ (r place matrices words out : ℕ) where
  pub gives_one : Outside 1 most_sessions r → Decided (length_rows r place matrices words out) 1
  unfolding Decided
  gives_one h = inl (h, refl)

  module _ (low : 1 ≤ r) (high : r ≤ most_sessions) where
    inside : Outside 1 most_sessions r → ⊥
    inside (inl h) = omega arith
    inside (inr h) = omega arith

    pub gives-out : out < out_words → Decided (length_rows r place matrices words out) 3
    unfolding Decided
    gives-out h = inr (inside, inl (h, refl))

    module _ (room : out_words ≤ out) where
      pub gives-words : words < r → Decided (length_rows r place matrices words out) 3
      unfolding Decided
      gives-words h = inr (inside, inr (λ g. omega arith, inl (inr h, refl)))

      pub gives-matrices : matrices / r ≤ place → Decided (length_rows r place matrices words out) 3
      unfolding Decided
      gives-matrices h = inr (inside, inr (λ g. omega arith, inl (inl ((div-lt_iff_lt-mul {k = r} {x = matrices} {y = place + 1} (omega arith)).0 (omega arith)), refl)))

      pub gives_none : r ≤ words → place < matrices / r → Decided (length_rows r place matrices words out) 0
      unfolding Decided
      gives_none h l = inr (
        inside,
        inr (
          λ g. omega arith,
          inr (λ g. ⊎_elim (λ w. (let z = (div-lt_iff_lt-mul {k = r} {x = matrices} {y = place + 1} (omega arith)).1 w in omega arith)) (λ w. omega arith) g, refl),
        ),
      )

-- where nothing is refused
pub record Lent (r place : ℕ) (matrices words : List ℕ) (out : ℕ) : Type 0 where
  pub low : 1 ≤ r
  pub high : r ≤ most_sessions
  pub room : out_words ≤ out
  pub there : place * r + r ≤ length matrices
  pub long : r ≤ length words

pub lent : (r place : ℕ) (matrices words : List ℕ) (out : ℕ) → Decided (length_rows r place (length matrices) (length words) out) 0 → Lent r place matrices words out
unfolding Decided
lent r place matrices words out (inl d) = absurd (omega (arith, d.1))
lent r place matrices words out (inr (a, inl d)) = absurd (omega (arith, d.1))
lent r place matrices words out (inr (a, inr (b, inl d))) = absurd (omega (arith, d.1))
lent r place matrices words out (inr (a, inr (b, inr (c, d)))) = record {
  low = not-below 1 r (λ h. a (inl h));
  high = not-below r most_sessions (λ h. a (inr h));
  room = not-below out_words out b;
  there = (let z = not-below ((place + 1) * r) (length matrices) (λ h. c (inl h)) in omega (arith, next_row place r));
  long = not-below r (length words) (λ h. c (inr h));
}
  where
    not-below : (x y : ℕ) → (y < x → ⊥) → x ≤ y
    not-below x y h = elim (dec_le x y) [ yes z ↦ z | no z ↦ absurd (h (lt_of_not-le z)) ]

-- ---- what is answered

module _ (r place : ℕ) (matrices words : List ℕ) (out : ℕ) (d : Decided (length_rows r place (length matrices) (length words) out) 0) where
  abbrev from : List ℕ
  from = take (length matrices - place * r) (drop (place * r) matrices)

  l : Lent r place matrices words out
  l = lent r place matrices words out d

  -- a row of the first matrix from there on is one of the place's
  row-there : (j : ℕ) → j < r → get_or from (0 * r + j) 0 ≡ get_or matrices (place * r + j) 0
  row-there j h =
      ap (λ (n : ℕ). get_or from n 0) (let e : 0 * r + j ≡ j = omega (arith, zero-mul r) in e)
      ∙ part_at matrices (place * r) j (omega (arith, l.there))

  same-there : (n : ℕ) → n ≤ r → Same r from words 0 n → Same r matrices words place n
  same-there n h s j g = s j g ∙ row-there j (omega arith)

  -- so nothing is refused there
  good : Decided (compare_rows_with r 0 from words []) 0
  unfolding Decided
  good = inr (
    λ g. ⊎_elim (λ h. omega (arith, l.low)) (λ h. omega (arith, l.high)) g,
    inr (
      λ g. ⊎_elim (λ h. (let z = part-long matrices (place * r) r l.there in omega (arith, next_row 0 r, zero-mul r))) (λ h. omega (arith, l.long)) g,
      refl,
    ),
  )

  pub answered : (c : Compared) → Compares r 0 from words (said_compared (Ok c)) → CompareOutcome r place matrices words (put_said place c)
  answered (Equal p) a = inl (same-there r (omega arith) (equal-one r 0 from words p a).0, refl)
  answered (Differs j) a =
      let f = differs-one r 0 from words j a in
      inr (
        j.0,
        record { there = f.there; differs = λ q. f.differs (q ∙ sym (row-there j.0 f.there)); before = same-there j.0 (omega (arith, f.there)) f.before },
        refl,
      )

  pub answers : (result : Result Compared Refusal) → Compares r 0 from words (said_compared result) → Answers r place matrices words out result
  answers (Ok c) a = record { number = d; room = l.room; outcome = answered c a }
  answers (Err k) a = absurd (let e = decided-unique (compare_rows_with r 0 from words []) (refusal_number k) 0 a.number good in omega (arith, e, refusal-positive k))

-- ---- any two results for the same input are equal

pub compare-done-unique : (r place : ℕ) (matrices words old : List ℕ) (k l : ℕ) (x y : List ℕ)
    → CompareDone r place matrices words old k x → CompareDone r place matrices words old l y → (k ≡ l) × (x ≡ y)
compare-done-unique r place matrices words old k l x y p q =
    let n = decided-unique (compare_rows r place matrices words old) k l p.number q.number in
    elim (ℕ_discrete k 0) [
      | yes e ↦
          let a = p.passed e in
          let b = q.passed (sym n ∙ e) in
          (n, a.2 ∙ ap (λ (s : Said). written (said_words s) old) (outcome-unique r place matrices words a.0 b.0 a.1 b.1) ∙ sym b.2)
      | no e ↦ (n, p.refused e ∙ sym (q.refused (λ z. e (n ∙ z))))
    ]
