-- Uniqueness: any two results that the check's contract allows for the same input are equal; and what its verdicts mean.
-- Assumes nothing.
use mathlib.Core.Path.{◌≡◌, refl, sym, ap, subst}
use mathlib.Core.Logic.{◌↔◌, ⊎_elim}
use mathlib.Core.List.{List, head-eq_of_cons-eq, tail-eq_of_cons-eq, nil≢cons}
use Prim.Native.Nat.{ℕ}
use native.Mathlib.Nat.{eq-or-lt_of_le}
use native.Mathlib.Decide.{dec_lt}
use native.Mathlib.Omega.{arith}
use Rattle.rules.specs.Refusals.{refusal_number}
use Rattle.rules.proofs.Refusals.{decided-unique, refusal-one}
use Rattle.session.specs.Recording.{Recording}
use Rattle.formula.specs.Formula.{Formula, Separates}
use Rattle.formula.specs.Nodes.{Node, Spells, codes}
use Rattle.formula.specs.Recorded.{marked_traces}
use Rattle.rules.specs.declared.kinds.Session.{Session}
use Rattle.verdict.specs.declared.Verdict.{Verdict}
use Rattle.verdict.specs.declared.Verdict.TheVariants.{Accepted, Disagrees}
use Rattle.std.specs.Prelude.{Result, Ok, Err}
use Rattle.rules.specs.declared.refusal.Refusal.{Refusal}
use Rattle.verdict.specs.Check.{said_verdict, FirstDisagrees, CheckAnswer}
use Rattle.formula.proofs.Spelled.{one-formula}
use Rattle.verdict.proofs.Checking.{each-agrees}

module _ (i : Recording) (k : List Node) (root : Node) where
  separated : CheckAnswer i k root (said_verdict (Ok Accepted)) → (t : Formula) × Spells codes k root t × Separates (marked_traces i) t
  separated a = let p = a.passed refl in (p.0, p.1, ⊎_elim (λ o. o.0) (λ o. let z = head-eq_of_cons-eq o.2 in absurd (omega arith)) p.2)

  named : (j : Session) → CheckAnswer i k root (said_verdict (Ok (Disagrees j))) → (t : Formula) × Spells codes k root t × FirstDisagrees i t j.0
  named j a =
      let p = a.passed refl in (
        p.0,
        p.1,
        ⊎_elim (λ o. let z = head-eq_of_cons-eq o.1 in absurd (omega arith))
            (λ o. subst (FirstDisagrees i p.0) (sym (head-eq_of_cons-eq (tail-eq_of_cons-eq o.2))) o.1) p.2,
      )

  not_none : (n : Refusal) → CheckAnswer i k root (said_verdict (Err n)) → refusal_number n ≡ 0 → ⊥
  not_none n a e = let p = a.passed e in ⊎_elim (λ o. absurd (nil≢cons o.1)) (λ o. absurd (nil≢cons o.2)) p.2

  apart : CheckAnswer i k root (said_verdict (Ok Accepted)) → (j : Session) → CheckAnswer i k root (said_verdict (Ok (Disagrees j))) → ⊥
  apart a j b =
      let p = separated a in
      let q = named j b in
      let f = subst (λ (t : Formula). FirstDisagrees i t j.0) (one-formula k root q.0 p.0 q.1 p.1) q.2 in
      f.disagrees (each-agrees i p.0 p.2 j.0 f.there)

  first_one : (t : Formula) (j l : ℕ) → FirstDisagrees i t j → FirstDisagrees i t l → j ≡ l
  first_one t j l a b =
      elim (dec_lt j l) [
        | yes h ↦ absurd (a.disagrees (b.before j h))
        | no h ↦ ⊎_elim (λ e. sym e) (λ g. absurd (b.disagrees (a.before l g))) (eq-or-lt_of_le {n = l} {m = j} (omega arith))
      ]

  number_of : (v w : Result Verdict Refusal) → CheckAnswer i k root (said_verdict v) → CheckAnswer i k root (said_verdict w) → (said_verdict v).number ≡ (said_verdict w).number
  number_of v w a b = decided-unique _ _ _ a.number b.number

  seat : ℕ → Session
  seat n = record { 0 = n }

  pub check-unique : (v w : Result Verdict Refusal) → CheckAnswer i k root (said_verdict v) → CheckAnswer i k root (said_verdict w) → v ≡ w
  unfolding seat
  check-unique (Ok Accepted) (Ok Accepted) a b = refl
  check-unique (Ok Accepted) (Ok (Disagrees j)) a b = absurd (apart a j b)
  check-unique (Ok Accepted) (Err n) a b = absurd (not_none n b (sym (number_of (Ok Accepted) (Err n) a b)))
  check-unique (Ok (Disagrees j)) (Ok Accepted) a b = absurd (apart b j a)
  check-unique (Ok (Disagrees j)) (Ok (Disagrees l)) a b =
      let p = named j a in
      let q = named l b in
      let f = subst (λ (t : Formula). FirstDisagrees i t l.0) (one-formula k root q.0 p.0 q.1 p.1) q.2 in
      ap (λ (x : Session). Ok (Disagrees x)) (ap seat (first_one p.0 j.0 l.0 p.2 f))
  check-unique (Ok (Disagrees j)) (Err n) a b = absurd (not_none n b (sym (number_of (Ok (Disagrees j)) (Err n) a b)))
  check-unique (Err n) (Ok Accepted) a b = absurd (not_none n a (number_of (Err n) (Ok Accepted) a b))
  check-unique (Err n) (Ok (Disagrees l)) a b = absurd (not_none n a (number_of (Err n) (Ok (Disagrees l)) a b))
  check-unique (Err n) (Err o) a b = ap Err (refusal-one n o (number_of (Err n) (Err o) a b))

  -- "It accepts only a separating formula, and every one"
  pub accepts-separating : (v : Result Verdict Refusal) → CheckAnswer i k root (said_verdict v) → (said_verdict v).number ≡ 0
      → (t : Formula) → Spells codes k root t → (v ≡ Ok Accepted) ↔ Separates (marked_traces i) t
  accepts-separating (Ok Accepted) a e t s =
      let p = separated a in
      (λ q. subst (Separates (marked_traces i)) (one-formula k root p.0 t p.1 s) p.2, λ q. refl)
  accepts-separating (Ok (Disagrees j)) a e t s =
      let p = named j a in
      let f = subst (λ (u : Formula). FirstDisagrees i u j.0) (one-formula k root p.0 t p.1 s) p.2 in
      (λ q. let z : ◌≡◌ {A = ℕ} 0 1 = cc in absurd (omega arith), λ q. absurd (f.disagrees (each-agrees i t q j.0 f.there)))
  accepts-separating (Err n) a e t s = absurd (not_none n a e)
