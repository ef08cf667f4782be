-- The analyst's check at the boundary: with no session lent the core refuses with 1 or 3, and a row that is not given may stand in a list.
-- Assumes nothing.
use mathlib.Core.Path.{◌≡◌, refl}
use mathlib.Core.Logic.{inl, inr}
use mathlib.Core.List.{List, []}
use Prim.Native.Nat.{ℕ, ◌≤◌, ◌<◌}
use native.Mathlib.Nat.{lt_of_not-le}
use native.Mathlib.Omega.{arith}
use lib.ListN.{length}
use Rattle.rules.specs.Refusals.{Decided}
use Rattle.session.specs.Data.{data_rows}
use Rattle.formula.specs.Nodes.{Node}
use Rattle.verdict.specs.declared.Verdict.{Verdict}
use Rattle.verdict.specs.declared.Verdict.TheVariants.{Accepted, Disagrees}
use Rattle.std.specs.Prelude.{Result, Ok, Err}
use Rattle.rules.specs.declared.refusal.Refusal.{Refusal}
use Rattle.rules.specs.Refusals.{refusal_number}
use Rattle.verdict.specs.Check as core
use Rattle.verdict.specs.Check.{said_verdict, CheckAnswer}
use Rattle.session.specs.Recording.{Recording, recording}
use Rattle.out.specs.Out.{out_words, written, returned_of, said_words}
use Rattle.out_check.specs.Check.{out_check_rows, CheckDone}
use Rattle.out_check.specs.Inner.{CheckUnanswered}

-- ---- `out` is too short

module _ (r m : ℕ) where
  -- r is at least 1 where 1 is not given, so that no marks are too few
  pub unanswered : (k : ℕ) → Decided (data_rows (recording r m [] [] [])) k → CheckUnanswered r m k
  unfolding Decided
  unanswered k (inl p) = inl p
  unanswered k (inr (p, inl s)) = inr (p, inl (tt, s.1))
  unanswered k (inr (p, inr (s, u))) = absurd (p (inl (inl (lt_of_not-le λ g. s (inl g)))))

  module _ (marks lengths words : List ℕ) (l : List Node) (root : Node) (old : List ℕ) where
    abbrev i : Recording
    i = recording r m marks lengths words

    refused-rows : length old < out_words → (k : ℕ) → CheckUnanswered r m k → Decided (out_check_rows i l root old) k
    unfolding Decided
    refused-rows h k (inl p) = inl p
    refused-rows h k (inr (p, inl s)) = inr (p, inl (h, s.1))
    refused-rows h k (inr (p, inr s)) = absurd (s.0 tt)

    not-answered : (k : ℕ) → CheckUnanswered r m k → k ≡ 0 → ⊥
    unfolding Decided
    not-answered k (inl p) e = omega (arith, p.1)
    not-answered k (inr (p, inl s)) e = omega (arith, s.1)
    not-answered k (inr (p, inr s)) e = s.0 tt

    pub check-short : length old < out_words → (k : ℕ) → CheckUnanswered r m k → CheckDone i l root old k old
    check-short h k d = record { number = refused-rows h k d; refused = λ _. refl; passed = λ e. absurd (not-answered k d e) }

-- ---- `out` is long enough

module _ (i : Recording) (l : List Node) (root : Node) (old : List ℕ) (h : out_words ≤ length old) where
  answered-rows : (k : ℕ) → Decided (core.check_rows i l root) k → Decided (out_check_rows i l root old) k
  unfolding Decided
  answered-rows k (inl p) = inl p
  answered-rows k (inr (p, d)) = inr (p, inr (λ g. omega arith, d))

  module _ (new : List ℕ) where
    abbrev Does : Result Verdict Refusal → Type 0
    Does v = CheckAnswer i l root (said_verdict v) → new ≡ written (said_words (said_verdict v)) old → CheckDone i l root old (returned_of (said_verdict v)) new

    pub check-long : (v : Result Verdict Refusal) → Does v
    check-long (Ok Accepted) a e = record { number = answered-rows 0 a.number; refused = λ f. absurd (f refl); passed = λ _. (Ok Accepted, a, e) }
    check-long (Ok (Disagrees j)) a e = record { number = answered-rows 0 a.number; refused = λ f. absurd (f refl); passed = λ _. (Ok (Disagrees j), a, e) }
    check-long (Err k) a e = record { number = answered-rows (refusal_number k) a.number; refused = λ _. e; passed = λ _. (Err k, a, e) }
