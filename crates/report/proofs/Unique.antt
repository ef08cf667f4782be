-- Uniqueness: what is said of a reading, the text of a report, and any two results that a contract allows for the same input, are equal.
-- Assumes nothing.
use mathlib.Core.Path.{◌≡◌, refl, sym, ap, ap₂, ◌∙◌, subst}
use mathlib.Core.List.{List, ◌++◌, head-eq_of_cons-eq, nil≢cons}
use Prim.Native.Nat.{ℕ, zero, suc}
use lib.ListN.{length}
use Rattle.rules.specs.Answers.{over}
use Rattle.rules.proofs.Refusals.{decided-unique, refusal-one}
use Rattle.session.specs.Recording.{Recording, length_of}
use Rattle.formula.specs.Formula.{Formula, Holds}
use Rattle.formula.specs.Nodes.{Node, node_at}
use Rattle.formula.specs.Recorded.{marked_trace}
use Rattle.formula.proofs.Spelled.{one-formula}
use Rattle.summary.specs.declared.values.Summary.{Summary}
use Rattle.std.specs.Prelude.{Result, Ok, Err}
use Rattle.rules.specs.declared.refusal.Refusal.{Refusal}
use Rattle.rules.specs.Refusals.{refusal_number}
use Rattle.summary.specs.Values.{Summed}
use Rattle.report.specs.Under.{Under}
use Rattle.report.specs.Lines.{NodeSays, PlaceLine, PlaceLines, SessionLines, SessionsLines, place_line, root_line}
use Rattle.report.specs.Lines.PlaceLine.{one, none}
use Rattle.report.specs.Report.{said_report, Reports}
use Rattle.report.specs.Promises.{OneReport}
use Rattle.summary.proofs.Unique.{summed-unique}

-- ---- the text

module _ (i : Recording) (k : List Node) where
  node-unique : (j : ℕ) (n : Node) (s t : Summary) → NodeSays i k j n s → NodeSays i k j n t → s ≡ t
  node-unique j n s t a b =
      let e = one-formula k n b.formula a.formula b.spells a.spells in
      summed-unique s t a.says (subst (λ (u : Formula). Summed (length_of i j) (Holds (marked_trace i j).trace u) t) e b.says)

  module _ (reported : ℕ → Type 0) (j : ℕ) where
    place-unique : (p : ℕ) (a b : List ℕ) → PlaceLine i k reported j p a → PlaceLine i k reported j p b → a ≡ b
    place-unique p a b (one u s x e) (one v t y f) = e ∙ ap (place_line j p) (node-unique j (node_at k p) s t x y) ∙ sym f
    place-unique p a b (one u s x e) (none v f) = absurd (v u)
    place-unique p a b (none u e) (one v t y f) = absurd (u v)
    place-unique p a b (none u e) (none v f) = e ∙ sym f

    places-unique : (n : ℕ) (a b : List ℕ) → PlaceLines i k reported j n a → PlaceLines i k reported j n b → a ≡ b
    places-unique zero a b p q = p ∙ sym q
    places-unique (suc n) a b (c, d, p, q, e) (x, y, u, v, f) = e ∙ ap₂ (λ (l m : List ℕ). l ++ m) (places-unique n c x p u) (place-unique n d y q v) ∙ sym f

  module _ (root : Node) where
    session-unique : (j : ℕ) (a b : List ℕ) → SessionLines i k root j a → SessionLines i k root j b → a ≡ b
    session-unique j a b p q =
        p.whole
        ∙ ap₂ (λ (l m : List ℕ). l ++ m) (places-unique (Under k root) j (length k) p.places q.places p.listed q.listed)
        (ap (root_line j) (node-unique j root p.summary q.summary p.rooted q.rooted))
        ∙ sym q.whole

    sessions-unique : (n : ℕ) (a b : List ℕ) → SessionsLines i k root n a → SessionsLines i k root n b → a ≡ b
    sessions-unique zero a b p q = p ∙ sym q
    sessions-unique (suc n) a b (c, d, p, q, e) (x, y, u, v, f) = e ∙ ap₂ (λ (l m : List ℕ). l ++ m) (sessions-unique n c x p u) (session-unique n d y q v) ∙ sym f

pub one-report : OneReport
one-report i k root a b p q = sessions-unique i k root i.sessions a b p q

-- ---- the answer

module _ (i : Recording) (k : List Node) (root : Node) (old : List ℕ) where
  -- a refusal's number is not 0
  not_none : (n : Refusal) (l : List ℕ) → Reports i k root old (said_report (Err n)) l → refusal_number n ≡ 0 → ⊥
  not_none n l p e = nil≢cons (p.passed e).2

  -- answer and later text
  pub report-unique : (a b : Result ℕ Refusal) (l m : List ℕ) → Reports i k root old (said_report a) l → Reports i k root old (said_report b) m → (a ≡ b) × (l ≡ m)
  report-unique (Ok n) (Ok o) l m p q =
      let x = p.passed refl in
      let y = q.passed refl in
      let e = one-report i k root x.0 y.0 x.1 y.1 in (
        ap Ok (head-eq_of_cons-eq x.2 ∙ ap length e ∙ sym (head-eq_of_cons-eq y.2)),
        x.3 ∙ ap (λ (t : List ℕ). over t old) e ∙ sym y.3,
      )
  report-unique (Ok n) (Err o) l m p q = absurd (not_none o m q (sym (decided-unique _ _ _ p.number q.number)))
  report-unique (Err n) (Ok o) l m p q = absurd (not_none n l p (decided-unique _ _ _ p.number q.number))
  report-unique (Err n) (Err o) l m p q =
      (ap Err (refusal-one n o (decided-unique _ _ _ p.number q.number)), (p.refused (not_none n l p)).1 ∙ sym (q.refused (not_none o m q)).1)
