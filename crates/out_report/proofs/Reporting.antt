-- The report at the boundary: what its contract leaves is one; with no text lent the core refuses, since a report has at least a line, and a row that is not given may stand in a list.
-- Assumes nothing.
use mathlib.Core.Path.{◌≡◌, refl, sym, ap, ◌∙◌, subst}
use mathlib.Core.Logic.{inl, inr}
use mathlib.Core.List.{List, [], ◌∷◌, ◌++◌}
use Prim.Native.Nat.{ℕ, zero, suc, ◌+◌, ◌≤◌, ◌<◌}
use native.Mathlib.Nat.{lt_of_not-le}
use native.Mathlib.Decide.{ℕ_discrete}
use native.Mathlib.Omega.{arith}
use lib.Dec.{lit<}
use lib.ListN.{length, length-append}
use Rattle.rules.specs.Refusals.{Row, Decided, refusal_number}
use Rattle.rules.proofs.Refusals.{Numbered, decided-none, decided-unique}
use Rattle.session.specs.Recording.{Recording}
use Rattle.formula.specs.Nodes.{Node}
use Rattle.verdict.specs.Check.{check_rows}
use Rattle.writing.specs.Writing.{decimal}
use Rattle.std.specs.Prelude.{Result, Ok, Err}
use Rattle.rules.specs.declared.refusal.Refusal.{Refusal}
use Rattle.report.specs.Lines.{SessionsLines, root_line, summary_text, root_word}
use Rattle.report.specs.Report.{said_report, short_text, report_rows, Reports}
use Rattle.report.proofs.Unique.{report-unique}
use Rattle.out.specs.Out.{out_words, out_short, written, said_words}
use Rattle.out_report.specs.Report.{ReportDone}
use Rattle.out.specs.Unanswered.{no_answer}
use Rattle.out_report.specs.Inner.{ReportUnanswered}

-- ---- lists that differ in their last rows

swap : (rows a b : List Row) (n : ℕ) → (Decided a n → Decided b n) → Decided (rows ++ a) n → Decided (rows ++ b) n
unfolding Decided
swap [] a b n f d = f d
swap (row ∷ rows) a b n f (inl p) = inl p
swap (row ∷ rows) a b n f (inr (p, d)) = inr (p, swap rows a b n f d)

module _ (i : Recording) (k : List Node) (root : Node) where
  -- a report has at least a line
  some : (n : ℕ) → 1 ≤ n → (out : List ℕ) → SessionsLines i k root n out → 1 ≤ length out
  some zero h out e = absurd (omega arith)
  some (suc j) h out (before, here, lines, line, e) =
      let a : length out ≡ length before + length here = ap length e ∙ length-append before here in
      let b : length here ≡ length line.places + length (root_line j line.summary) = ap length line.whole ∙ length-append line.places (root_line j line.summary) in
      let d = length-append (decimal j) (root_word ++ summary_text line.summary) in
      omega arith

  some-session : Decided (check_rows i k root ++ (short_text i k root [] ∷ [])) 0 → 1 ≤ i.sessions
  some-session d =
      let n = decided-none _ _ (lit< tt, (lit< tt, (lit< tt, (lit< tt, (lit< tt, (lit< tt, (lit< tt, tt))))))) d in
      lt_of_not-le λ g. n.0 (inl (inl (omega arith)))

  -- ---- `out` is too short

  last : (a : Result ℕ Refusal) (new : List ℕ) → Reports i k root [] (said_report a) new → Decided (short_text i k root [] ∷ []) (said_report a).number
      → Decided (no_answer ∷ []) (said_report a).number
  unfolding Decided
  last a new r (inl p) = inl (tt, p.1)
  last a new r (inr (p, z)) =
      let t = r.passed z in
      let s = some-session (subst (Decided (report_rows i k root [])) z r.number) in
      absurd (p (t.0, t.1, some i.sessions s t.0 t.1))

  pub unreported : (a : Result ℕ Refusal) (new : List ℕ) → Reports i k root [] (said_report a) new → ReportUnanswered i k root (said_report a).number
  unreported a new r = swap (check_rows i k root) (short_text i k root [] ∷ []) (no_answer ∷ []) (said_report a).number (last a new r) r.number

  module _ (text old : List ℕ) where
    three : length old < out_words → (n : ℕ) → Decided (no_answer ∷ []) n → Decided (out_short old ∷ (short_text i k root text ∷ [])) n
    unfolding Decided
    three h n (inl p) = inl (h, p.1)
    three h n (inr (p, z)) = absurd (p tt)

    not-answered : (rows : List Row) (n : ℕ) → Decided (rows ++ (no_answer ∷ [])) n → Numbered rows → n ≡ 0 → ⊥
    unfolding Decided
    not-answered [] n (inl p) c z = omega (arith, p.1)
    not-answered [] n (inr (p, e)) c z = p tt
    not-answered (row ∷ rows) n (inl p) c z = omega (arith, p.1, c.0)
    not-answered (row ∷ rows) n (inr (p, d)) c z = not-answered rows n d c.1 z

    pub report-short : length old < out_words → (n : ℕ) → ReportUnanswered i k root n → ReportDone i k root text old n text old
    report-short h n d =
        record {
          number = swap (check_rows i k root) (no_answer ∷ []) (out_short old ∷ (short_text i k root text ∷ [])) n (three h n) d;
          refused = λ z. (refl, refl);
          passed = λ z. absurd (not-answered (check_rows i k root) n d (lit< tt, (lit< tt, (lit< tt, (lit< tt, (lit< tt, (lit< tt, tt)))))) z);
        }

    -- ---- `out` is long enough

    behind : out_words ≤ length old → (n : ℕ) → Decided (short_text i k root text ∷ []) n → Decided (out_short old ∷ (short_text i k root text ∷ [])) n
    unfolding Decided
    behind h n d = inr (λ g. omega arith, d)

    pub report-long : out_words ≤ length old → (a : Result ℕ Refusal) (text' new : List ℕ) → Reports i k root text (said_report a) text'
        → new ≡ written (said_words (said_report a)) old → ReportDone i k root text old (said_report a).number text' new
    report-long h (Ok n) text' new r e =
        record {
          number = swap (check_rows i k root) (short_text i k root text ∷ []) (out_short old ∷ (short_text i k root text ∷ [])) 0 (behind h 0) r.number;
          refused = λ z. absurd (z refl);
          passed = λ z. (Ok n, r, e);
        }
    report-long h (Err n) text' new r e =
        record {
          number = swap (check_rows i k root) (short_text i k root text ∷ []) (out_short old ∷ (short_text i k root text ∷ [])) (refusal_number n) (behind h (refusal_number n)) r.number;
          refused = λ z. ((r.refused z).1, e);
          passed = λ z. (Err n, r, e);
        }

-- number, text and `out`
pub report-done-unique : (i : Recording) (k : List Node) (root : Node) (text old : List ℕ) (m n : ℕ) (u v x y : List ℕ)
    → ReportDone i k root text old m u x → ReportDone i k root text old n v y → (m ≡ n) × (u ≡ v) × (x ≡ y)
report-done-unique i k root text old m n u v x y p q =
    let o = decided-unique _ m n p.number q.number in
    elim (ℕ_discrete m 0) [
      | yes e ↦
          let a = p.passed e in
          let b = q.passed (sym o ∙ e) in
          let s = report-unique i k root text a.0 b.0 u v a.1 b.1 in
          (o, s.1, a.2 ∙ ap (λ (w : Result ℕ Refusal). written (said_words (said_report w)) old) s.0 ∙ sym b.2)
      | no e ↦
          let a = p.refused e in
          let b = q.refused (λ z. e (o ∙ z)) in
          (o, a.0 ∙ sym b.0, a.1 ∙ sym b.1)
    ]
