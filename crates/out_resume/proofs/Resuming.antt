-- The search in slices at the boundary: with no session lent the core's tests refuse at 3 at the latest, and rows that are not given may stand in a list.
-- Assumes nothing.
use mathlib.Core.Path.{◌≡◌, refl, sym, ap, subst}
use mathlib.Core.Logic.{inl, inr}
use mathlib.Core.List.{List, []}
use Rattle.std.specs.Prelude.{Ok, Err}
use Prim.Native.Nat.{ℕ, ◌≤◌, ◌<◌}
use native.Mathlib.Nat.{lt_of_not-le}
use native.Mathlib.Omega.{arith}
use lib.ListN.{length, set}
use Rattle.rules.specs.Limits.{most_budget}
use Rattle.rules.specs.declared.refusal.Refusal.{Refusal}
use Rattle.rules.specs.Refusals.{Decided, refusal_number}
use Rattle.rules.proofs.Refusals.{decided-unique, decided-not}
use Rattle.walk.specs.Input.{Input, input_of}
use Rattle.checks.specs.Refusals.{search_rows}
use Rattle.table.specs.Slices.{Cols, cols}
use Rattle.state.specs.declared.State.{State}
use Rattle.state.specs.declared.End.{End}
use Rattle.slices.specs.Slices as core
use Rattle.slices.specs.Resume.{Called}
use Rattle.out.specs.Out.{long_words, written}
use Rattle.state_words.specs.Words.{state_words, state_read}
use Rattle.state_words.specs.Written.{state_short, StateDone}
use Rattle.out_resume.specs.Resume.{words_at, told_words, out_resume_rows, ResumeDone}
use Rattle.out_resume.specs.Inner.{ResumeUnanswered}

-- ---- `out` or the state is too short

module _ (r m bound room constants budget : ℕ) where
  -- the numbers that the core's tests give with nothing lent
  abbrev Tests : ℕ → Type 0
  Tests k = Decided (search_rows (input_of r m bound room constants [] [] [] [] []) (cols [] [] [] [] [])) k

  abbrev Gives : ℕ → Type 0
  Gives k = ResumeUnanswered r m bound room constants budget k

  pub unanswered-over : (k : ℕ) → k ≡ 3 → most_budget < budget → Tests k → Gives 2
  unfolding Decided
  unanswered-over k e h (inl p) = absurd (omega (arith, p.1))
  unanswered-over k e h (inr (p, inl q)) = absurd (omega (arith, q.1))
  unanswered-over k e h (inr (p, inr (q, s))) = inr (p, inr (q, inl (h, refl)))

  -- r is at least 1 where 1 is not given, so that no marks are too few
  pub unanswered-within : (k : ℕ) → budget ≤ most_budget → Tests k → Gives k
  unfolding Decided
  unanswered-within k h (inl p) = inl p
  unanswered-within k h (inr (p, inl q)) = inr (p, inl q)
  unanswered-within k h (inr (p, inr (q, inl s))) = inr (p, inr (q, inr (λ g. omega arith, inl (tt, s.1))))
  unanswered-within k h (inr (p, inr (q, inr (s, u)))) = absurd (p (inl (inl (lt_of_not-le λ g. s (inl g)))))

  pub unanswered-before : (k : ℕ) → (k ≡ 3 → ⊥) → Tests k → Gives k
  unfolding Decided
  unanswered-before k f (inl p) = inl p
  unanswered-before k f (inr (p, inl q)) = inr (p, inl q)
  unanswered-before k f (inr (p, inr (q, inl s))) = absurd (f s.1)
  unanswered-before k f (inr (p, inr (q, inr (s, u)))) = absurd (p (inl (inl (lt_of_not-le λ g. s (inl g)))))

  module _ (marks lengths words unary binary : List ℕ) (t : Cols) (state old : List ℕ) where
    abbrev i : Input
    i = input_of r m bound room constants marks lengths words unary binary

    not-answered : (k : ℕ) → ResumeUnanswered r m bound room constants budget k → k ≡ 0 → ⊥
    unfolding Decided
    not-answered k (inl p) e = omega (arith, p.1)
    not-answered k (inr (p, inl q)) e = omega (arith, q.1)
    not-answered k (inr (p, inr (q, inl b))) e = omega (arith, b.1)
    not-answered k (inr (p, inr (q, inr (b, inl s)))) e = omega (arith, s.1)
    not-answered k (inr (p, inr (q, inr (b, inr s)))) e = s.0 tt

    out-rows : length old < long_words → (k : ℕ) → ResumeUnanswered r m bound room constants budget k → Decided (out_resume_rows i t budget state old) k
    unfolding Decided
    out-rows h k (inl p) = inl p
    out-rows h k (inr (p, inl q)) = inr (p, inl q)
    out-rows h k (inr (p, inr (q, inl b))) = inr (p, inr (q, inl b))
    out-rows h k (inr (p, inr (q, inr (b, inl s)))) = inr (p, inr (q, inr (b, inl (h, s.1))))
    out-rows h k (inr (p, inr (q, inr (b, inr s)))) = absurd (s.0 tt)

    state-rows : long_words ≤ length old → length state < state_words → (k : ℕ) → ResumeUnanswered r m bound room constants budget k
        → Decided (out_resume_rows i t budget state old) k
    unfolding Decided
    state-rows l h k (inl p) = inl p
    state-rows l h k (inr (p, inl q)) = inr (p, inl q)
    state-rows l h k (inr (p, inr (q, inl b))) = inr (p, inr (q, inl b))
    state-rows l h k (inr (p, inr (q, inr (b, inl s)))) = inr (p, inr (q, inr (b, inr (λ g. omega arith, inl (h, s.1)))))
    state-rows l h k (inr (p, inr (q, inr (b, inr s)))) = absurd (s.0 tt)

    pub out-short : length old < long_words → (k : ℕ) → ResumeUnanswered r m bound room constants budget k → ResumeDone i t budget state old k t state old
    out-short h k d = record { number = out-rows h k d; refused = λ f. (refl, refl, refl); passed = λ e. absurd (not-answered k d e) }

    pub state-short : long_words ≤ length old → length state < state_words → (k : ℕ) → ResumeUnanswered r m bound room constants budget k
        → ResumeDone i t budget state old k t state old
    state-short l h k d = record { number = state-rows l h k d; refused = λ f. (refl, refl, refl); passed = λ e. absurd (not-answered k d e) }

-- ---- both are long enough

module _ (i : Input) (t : Cols) (budget : ℕ) (state old : List ℕ) (h : long_words ≤ length old) (l : state_words ≤ length state) where
  answered-rows : (k : ℕ) → Decided (core.resume_rows i t budget (state_read state)) k → Decided (out_resume_rows i t budget state old) k
  unfolding Decided
  answered-rows k (inl p) = inl p
  answered-rows k (inr (p, inl q)) = inr (p, inl q)
  answered-rows k (inr (p, inr (q, inl b))) = inr (p, inr (q, inl b))
  answered-rows k (inr (p, inr (q, inr (b, d)))) = inr (p, inr (q, inr (b, inr (λ g. omega arith, inr (λ g. omega arith, d)))))

  -- a refusal writes nothing
  pub resume-refused : (from : State) → from ≡ state_read state → (u : Cols) (refusal : Refusal) → Called i t budget from (Err refusal) u
      → ResumeDone i t budget state old (refusal_number refusal) u state old
  resume-refused from e u refusal c =
      let d = subst (λ (s : State). Called i t budget s (Err refusal) u) e c in
      record {
        number = answered-rows (refusal_number refusal) d.decided;
        refused = λ _. (d.outcome.1, refl, refl);
        passed = λ z. absurd (omega (arith, d.outcome.0));
      }

  -- and else the state is put, since there is room for it
  pub resume-long : (from : State) → from ≡ state_read state → (u : Cols) (after : State) → Called i t budget from (Ok after) u → (k : ℕ) (state' new : List ℕ)
      → StateDone after state k state' → new ≡ written (told_words after) old → ResumeDone i t budget state old k u state' new
  resume-long from e u after c k state' new d w =
      let z : k ≡ 0 = decided-unique _ k 0 d.number (decided-not (state_short state) (λ g. omega arith)) in
      let (n, s) = d.passed z in
      let called = subst (λ (x : State). Called i t budget x (Ok after) u) e c in
      rw z (record { number = answered-rows 0 called.decided; refused = λ f. absurd (f refl); passed = λ _. (after, called, n, s, w) })

-- ---- what a state tells, by its end

module _ (s : State) (old : List ℕ) where
  -- with the three counts
  abbrev counted : List ℕ
  counted = set (set (set old 2 s.counts.tried) 3 s.counts.kept) 8 s.counts.dropped

  pub told_at : (end : End) → s.end ≡ end → written (words_at end s) counted ≡ written (told_words s) old
  told_at end e = ap (λ (x : End). written (words_at x s) counted) (sym e)
