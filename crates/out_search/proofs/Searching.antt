-- The search at the boundary: with no session lent the core's tests refuse at 3 at the latest, and a row that is not given may stand in a list.
-- Assumes nothing.
use mathlib.Core.Path.{◌≡◌, refl, subst}
use mathlib.Core.Logic.{inl, inr}
use mathlib.Core.List.{List, []}
use Rattle.std.specs.Prelude.{Ok, Err}
use Prim.Native.Nat.{ℕ, ◌≤◌, ◌<◌}
use native.Mathlib.Nat.{lt_of_not-le}
use native.Mathlib.Omega.{arith}
use lib.ListN.{length}
use Rattle.rules.specs.declared.refusal.Refusal.{Refusal}
use Rattle.rules.specs.Refusals.{Decided, refusal_number}
use Rattle.walk.specs.Input.{Input, input_of}
use Rattle.search.specs.declared.SearchAnswer.{SearchAnswer}
use Rattle.table.specs.Slices.{Cols, cols}
use Rattle.checks.specs.Refusals as core
use Rattle.search.specs.Search.{Searched}
use Rattle.search.proofs.Promises.{answered_zero}
use Rattle.out.specs.Out.{long_words, written}
use Rattle.out_search.specs.Search.{search_words, out_search_rows, SearchDone}
use Rattle.out_search.specs.Inner.{SearchUnanswered}

-- ---- `out` is too short

module _ (r m bound room constants : ℕ) where
  -- r is at least 1 where 1 is not given, so that no marks are too few
  pub unanswered : (k : ℕ) → Decided (core.search_rows (input_of r m bound room constants [] [] [] [] []) (cols [] [] [] [] [])) k → SearchUnanswered r m bound room constants k
  unfolding Decided
  unanswered k (inl p) = inl p
  unanswered k (inr (p, inl q)) = inr (p, inl q)
  unanswered k (inr (p, inr (q, inl s))) = inr (p, inr (q, inl (tt, s.1)))
  unanswered k (inr (p, inr (q, inr (s, u)))) = absurd (p (inl (inl (lt_of_not-le λ g. s (inl g)))))

  module _ (marks lengths words unary binary : List ℕ) (t : Cols) (old : List ℕ) where
    abbrev i : Input
    i = input_of r m bound room constants marks lengths words unary binary

    refused-rows : length old < long_words → (k : ℕ) → SearchUnanswered r m bound room constants k → Decided (out_search_rows i t old) k
    unfolding Decided
    refused-rows h k (inl p) = inl p
    refused-rows h k (inr (p, inl q)) = inr (p, inl q)
    refused-rows h k (inr (p, inr (q, inl s))) = inr (p, inr (q, inl (h, s.1)))
    refused-rows h k (inr (p, inr (q, inr s))) = absurd (s.0 tt)

    not-answered : (k : ℕ) → SearchUnanswered r m bound room constants k → k ≡ 0 → ⊥
    unfolding Decided
    not-answered k (inl p) e = omega (arith, p.1)
    not-answered k (inr (p, inl q)) e = omega (arith, q.1)
    not-answered k (inr (p, inr (q, inl s))) e = omega (arith, s.1)
    not-answered k (inr (p, inr (q, inr s))) e = s.0 tt

    pub search-short : length old < long_words → (k : ℕ) → SearchUnanswered r m bound room constants k → SearchDone i t old k t old
    search-short h k d = record { number = refused-rows h k d; refused = λ f. (refl, refl); passed = λ e. absurd (not-answered k d e) }

-- ---- `out` is long enough

module _ (i : Input) (t : Cols) (old : List ℕ) (h : long_words ≤ length old) where
  answered-rows : (k : ℕ) → Decided (core.search_rows i t) k → Decided (out_search_rows i t old) k
  unfolding Decided
  answered-rows k (inl p) = inl p
  answered-rows k (inr (p, inl q)) = inr (p, inl q)
  answered-rows k (inr (p, inr (q, d))) = inr (p, inr (q, inr (λ g. omega arith, d)))

  pub search-refused : (u : Cols) (refusal : Refusal) → Searched i t (Err refusal) u → SearchDone i t old (refusal_number refusal) u old
  search-refused u refusal s = record {
    number = answered-rows (refusal_number refusal) s.decided;
    refused = λ _. (s.outcome.1, refl);
    passed = λ e. absurd (omega (arith, s.outcome.0, e));
  }

  pub search-long : (u : Cols) (new : List ℕ) (a : SearchAnswer) → Searched i t (Ok a) u → new ≡ written (search_words a) old → SearchDone i t old 0 u new
  search-long u new a s e = record {
    number = answered-rows 0 (subst (Decided (core.search_rows i t)) (answered_zero a) s.decided);
    refused = λ f. absurd (f refl);
    passed = λ _. (a, s, e);
  }
