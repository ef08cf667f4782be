-- The report put together: what is said of a node by its sequence, line after line as they are written, and the answers.
-- Assumes nothing.
use mathlib.Core.Path.{◌≡◌, refl, sym, ap, ◌∙◌, subst}
use mathlib.Core.Logic.{◌↔◌}
use mathlib.Core.List.{List, [], ◌∷◌, ◌++◌}
use Prim.Native.Nat.{ℕ, zero, suc, ◌+◌, ◌≤◌, ◌<◌, min}
use native.Mathlib.Numerals.{add-one}
use native.Mathlib.Omega.{arith}
use lib.Dec.{lit<}
use lib.ListN.{length, take, drop, replicate, length-replicate}
use lib.Seq.{sets, sets-eq}
use Rattle.words.specs.Word.{width, At}
use Rattle.rules.specs.Refusals.{Decided, refusal_number}
use Rattle.rules.specs.Answers.{over}
use Rattle.rules.proofs.Refusals.{Numbered, decided-unique, decided-both, decided-given, decided-not, refused-early, refusal-positive, handed-up}
use Rattle.writing.specs.Writing.{Wrote}
use Rattle.writing.proofs.Writing.{wrote-both, wrote-whole}
use Rattle.writing.proofs.Digits.{written-front}
use Rattle.sequence.specs.declared.CharSeq.{CharSeq}
use Rattle.session.specs.Recording.{Recording, length_of}
use Rattle.formula.specs.Nodes.{Node}
use Rattle.verdict.specs.Check.{check_rows, said_verdict, CheckAnswer}
use Rattle.verdict.specs.Sequences.{SequenceAnswer}
use Rattle.verdict.specs.declared.Verdict.{Verdict}
use Rattle.verdict.specs.declared.Verdict.TheVariants.{Accepted, Disagrees}
use Rattle.summary.specs.declared.values.Summary.{Summary}
use Rattle.std.specs.Prelude.{Option, None, Some, Result, Ok, Err, IsErr, IsErrAnd}
use Rattle.rules.specs.declared.refusal.Refusal.{Refusal}
use Rattle.rules.specs.declared.refusal.Refusal.TheVariants.{Room}
use Rattle.summary.specs.Values.{Summed}
use Rattle.report.specs.Lines.{NodeSays, PlaceLines, root_line}
use Rattle.report.specs.Lines.PlaceLine.{one, none}
use Rattle.report.specs.Report.{said_report, short_text, Reports}
use Rattle.report.specs.Inner.{PlaceMarked, MarksUnder, WrotePlace, WrotePlaces, WroteSession, WroteSessions}
use Rattle.summary.proofs.Firsts.{summed_same}
use Rattle.report.proofs.Unique.{one-report}
use Rattle.report.proofs.Length.{report-fits, longest-is}

-- ---- a node by its sequence

module _ (i : Recording) (k : List Node) (j : ℕ) (n : Node) where
  pub node-says : (q : CharSeq) → SequenceAnswer i k n j (Ok (Some q)) → (s : Summary) → Summed (min q.length width) (At q.values) s → NodeSays i k j n s
  node-says q b s m =
      let c = b.carries in
      let w = c.denotes.means in
      let l : min q.length width ≡ length_of i j = (let h = w.wf.short in omega (arith, c.denotes.length)) in
      record {
        formula = c.formula;
        spells = c.spells;
        says = summed_same (λ p h. w.holds p (omega arith)) (subst (λ (x : ℕ). Summed x (At q.values) s) l m);
      }

  -- what has passed the check has a sequence
  pub sequence-there : (a : Result (Option CharSeq) Refusal) → SequenceAnswer i k n j a → j < i.sessions → Decided (check_rows i k n) 0
      → (q : CharSeq) × (a ≡ Ok (Some q))
  sequence-there (Ok (Some q)) b h d = (q, refl)
  sequence-there (Ok None) b h d = let c : i.sessions ≤ j = b.carries in absurd (omega arith)
  sequence-there (Err r) b h d = absurd (omega (arith, decided-unique (check_rows i k n) (refusal_number r) 0 b.number d, refusal-positive r))

-- ---- line after line

nothing-wrote : (l : List ℕ) (at : ℕ) → Wrote l at [] l at
nothing-wrote l at = record { next = omega arith; holds = refl }

module _ (i : Recording) (k : List Node) (marks : List ℕ) (j : ℕ) where
  pub no_line : (p : ℕ) (l : List ℕ) (at : ℕ) → (PlaceMarked marks p → ⊥) → WrotePlace i k marks j p l at l at
  no_line p l at u = ([], none u refl, nothing-wrote l at)

  pub no-places : (l : List ℕ) (at : ℕ) → WrotePlaces i k marks j 0 l at l at
  no-places l at = ([], refl, nothing-wrote l at)

  pub all-places : {p n : ℕ} {old new : List ℕ} {at b : ℕ} → p ≡ n → WrotePlaces i k marks j p old at new b → WrotePlaces i k marks j n old at new b
  all-places {p} {n} {old} {new} {at} {b} e w = subst (λ (x : ℕ). WrotePlaces i k marks j x old at new b) e w

  pub one_place : {old mid new : List ℕ} {at a b : ℕ} (p : ℕ) → WrotePlaces i k marks j p old at mid a → WrotePlace i k marks j p mid a new b
      → WrotePlaces i k marks j (p + 1) old at new b
  one_place {old} {mid} {new} {at} {a} {b} p (x, lines, v) (y, line, w) =
      subst (λ (n : ℕ). WrotePlaces i k marks j n old at new b) (sym (add-one p)) (x ++ y, (x, y, lines, line, refl), wrote-both x y v w)

module _ (i : Recording) (k : List Node) (j : ℕ) where
  same-places : {A B : ℕ → Type 0} (n : ℕ) (out : List ℕ) → ((p : ℕ) → p < n → A p ↔ B p) → PlaceLines i k A j n out → PlaceLines i k B j n out
  same-places zero out f e = e
  same-places (suc p) out f (x, y, lines, one u s says d, e) = (x, y, same-places p x (λ q h. f q (omega arith)) lines, one ((f p (omega arith)).0 u) s says d, e)
  same-places (suc p) out f (x, y, lines, none u d, e) = (x, y, same-places p x (λ q h. f q (omega arith)) lines, none (λ b. u ((f p (omega arith)).1 b)) d, e)

module _ (i : Recording) (k : List Node) (root : Node) where
  pub one-session : {marks old mid new : List ℕ} {at a b j : ℕ} {s : Summary} → MarksUnder k root marks → WrotePlaces i k marks j (length k) old at mid a
      → NodeSays i k j root s → Wrote mid a (root_line j s) new b → WroteSession i k root j old at new b
  one-session {marks} {old} {mid} {new} {at} {a} {b} {j} {s} m (x, lines, v) says w = (
    x ++ root_line j s,
    record { places = x; listed = same-places i k j (length k) x m.exactly lines; summary = s; rooted = says; whole = refl },
    wrote-both x (root_line j s) v w,
  )

  pub no-sessions : (l : List ℕ) → WroteSessions i k root 0 l 0 l 0
  no-sessions l = ([], refl, nothing-wrote l 0)

  pub all-sessions : {j n : ℕ} {old new : List ℕ} {b : ℕ} → j ≡ n → WroteSessions i k root j old 0 new b → WroteSessions i k root n old 0 new b
  all-sessions {j} {n} {old} {new} {b} e w = subst (λ (x : ℕ). WroteSessions i k root x old 0 new b) e w

  pub session-more : {old mid new : List ℕ} {a b : ℕ} (j : ℕ) → WroteSessions i k root j old 0 mid a → WroteSession i k root j mid a new b
      → WroteSessions i k root (j + 1) old 0 new b
  session-more {old} {mid} {new} {a} {b} j (x, lines, v) (y, line, w) =
      subst (λ (n : ℕ). WroteSessions i k root n old 0 new b) (sym (add-one j)) (x ++ y, (x, y, lines, line, refl), wrote-both x y v w)

-- ---- the answers

module _ (i : Recording) (k : List Node) (root : Node) (old : List ℕ) where
  numbered : Numbered (check_rows i k root)
  numbered = (lit< tt, (lit< tt, (lit< tt, (lit< tt, (lit< tt, (lit< tt, tt))))))

  -- what was written into a room for the longest report is the whole report
  module _ (d : Decided (check_rows i k root) 0) {whole : List ℕ} {n : ℕ} (w : WroteSessions i k root i.sessions (replicate 15562 0) 0 whole n) where
    room : length w.0 ≤ length (replicate {A = ℕ} 15562 0)
    room = let h = report-fits i k root w.0 d w.1 in omega (arith, longest-is, length-replicate {A = ℕ} 15562 0)

    pub whole-report : (n ≤ length whole) × (take n whole ≡ w.0) × (n ≡ length w.0)
    whole-report =
        let f = written-front w.0 room w.2 in
        (f.0, f.1, (let e = wrote-whole w.0 w.2 (let r = room in omega arith) in omega arith))

    pub too_short : length old < n → Reports i k root old (said_report (Err Room)) old
    too_short h =
        let e = whole-report.2 in
        record {
          number = decided-both (check_rows i k root) (short_text i k root old ∷ []) 0 3 numbered d (decided-given (short_text i k root old) (w.0, w.1, omega arith));
          refused = λ z. (refl, refl);
          passed = λ z. absurd (omega (arith, z));
        }

    pub reported : {new : List ℕ} {r : ℕ} → n ≤ length old → Wrote old 0 (take n whole) new r → Reports i k root old (said_report (Ok r)) new
    reported {new} {r} h v =
        let out = w.0 in
        let e = whole-report in
        let e2 = e.2 in
        let u : Wrote old 0 out new r = subst (λ (x : List ℕ). Wrote old 0 x new r) e.1 v in
        let front : sets old 0 out ≡ over out old = sets-eq out old 0 (omega arith) ∙ ap (λ (x : ℕ). out ++ drop x old) (let x : 0 + length out ≡ length out = omega arith in x) in
        record {
          number = decided-both (check_rows i k root) (short_text i k root old ∷ []) 0 0 numbered d (decided-not (short_text i k root old) (λ g.
              let same = ap length (one-report i k root g.0 out g.1 w.1) in
              let l = g.2 in
              omega arith));
          refused = λ z. absurd (z refl);
          passed = λ z. (out, w.1, ap (λ (x : ℕ). x ∷ []) (let x = wrote-whole out u (omega arith) in let y : r ≡ length out = omega arith in y), u.holds ∙ front);
        }

  -- ---- by the check

  pub refused-as-check : (refusal : Refusal) (a : Result ℕ Refusal) → CheckAnswer i k root (said_verdict (Err refusal)) → IsErr a × IsErrAnd a (λ e. e ≡ refusal)
      → Reports i k root old (said_report a) old
  refused-as-check refusal a c h =
      subst (λ (r : Result ℕ Refusal). Reports i k root old (said_report r) old) (sym (handed-up a refusal h))
      (record {
        number = refused-early (check_rows i k root) (short_text i k root old ∷ []) refusal c.number;
        refused = λ z. (refl, refl);
        passed = λ z. absurd (omega (arith, refusal-positive refusal));
      })

  pub passed-check : (v : Verdict) → CheckAnswer i k root (said_verdict (Ok v)) → Decided (check_rows i k root) 0
  passed-check Accepted a = a.number
  passed-check (Disagrees j) a = a.number
