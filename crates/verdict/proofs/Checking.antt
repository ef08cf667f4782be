-- The analyst's check: what the tests of session data give, a session's agreement by its sequence, and the sessions one after the other.
-- Assumes nothing.
use mathlib.Core.Path.{◌≡◌, refl, sym, subst}
use mathlib.Core.Logic.Iff
use mathlib.Core.Logic.{◌↔◌, inl, inr, ⊎_elim}
use mathlib.Core.Bool.{Bool, true, false, true≢false, beq}
use mathlib.Core.List.{List, [], ◌∷◌, map}
use Prim.Native.Nat.{ℕ, zero, suc, ◌+◌, ◌*◌, ◌≤◌, ◌<◌}
use native.Mathlib.Nat.{eq-or-lt_of_le, mul-le-mul_right, suc-mul, mul_comm}
use native.Mathlib.Numerals.{add-one}
use native.Mathlib.Omega.{arith}
use lib.Dec.{lit<}
use lib.ListN.{length, get_or}
use Rattle.words.specs.Ltlf.{AcceptsAt}
use Rattle.words.specs.Word.{width, Wf}
use Rattle.words.proofs.At.{not_at}
use Rattle.sequence.specs.declared.CharSeq.{CharSeq}
use Rattle.sequence.specs.Sequence.{SeqAccepts, Denotes}
use Rattle.std.specs.Prelude.{Option, Result, Ok, IsErr, IsErrAnd}
use Rattle.rules.specs.declared.refusal.Refusal.{Refusal}
use Rattle.rules.specs.Refusals.{Decided, refusal_number}
use Rattle.rules.proofs.Refusals.{decided-none, decided-later, refused-early, refusal-positive, handed-up}
use Rattle.session.specs.Data.{data_rows}
use Rattle.rules.specs.Limits.{most_sessions, most_propositions}
use Rattle.formula.specs.Formula.{Formula, Holds, Separates}
use Rattle.formula.specs.Nodes.{Node, Spells, codes}
use Rattle.rules.specs.Lists.{count}
use Rattle.session.specs.Recording.{Recording, mark_of, length_of, word_of}
use Rattle.formula.specs.Recorded.{marked_trace, marked_traces}
use Rattle.formula.specs.Rule.{Broken, broken_list}
use Rattle.verdict.specs.Check.{said_verdict, check_rows, Agrees, VerdictSays, CheckAnswer}
use Rattle.verdict.specs.Sequences.{SequenceAnswer}
use Rattle.verdict.specs.declared.Verdict.{Verdict}
use Rattle.verdict.specs.Inner.{trace_at, Ready, Evaluated, AgreesSeq, Checkable, FirstApart, VerdictOn}
use Rattle.formula.proofs.Faults.{whole-fits}
use Rattle.formula.proofs.Spelled.{spelled}

-- ---- a session's sequence

-- two tests that are equal say that one holds where the other does
pub same-tests : (a b : Bool) {P Q : Type 0} → (a ≡ true) ↔ P → (b ≡ true) ↔ Q → (beq a b ≡ true) ↔ (P ↔ Q)
same-tests true true p q = (λ h. (λ x. q.0 refl, λ y. p.0 refl), λ e. refl)
same-tests true false p q = (λ h. absurd (true≢false (sym h)), λ e. absurd (true≢false (sym (q.1 (e.0 (p.0 refl))))))
same-tests false true p q = (λ h. absurd (true≢false (sym h)), λ e. absurd (true≢false (sym (p.1 (e.1 (q.0 refl))))))
same-tests false false p q = (λ h. (λ x. absurd (true≢false (sym (p.1 x))), λ y. absurd (true≢false (sym (q.1 y)))), λ e. refl)

module _ (i : Recording) (k : List Node) (root : Node) where
  -- the formula's sequence at session j says whether the session agrees
  pub agrees-seq : (j from : ℕ) (w : CharSeq) (b : Bool) → from ≡ j * i.propositions → Evaluated (length_of i j) i.words from k root w
      → AgreesSeq (mark_of i j) w b → (t : Formula) → Spells codes k root t → (b ≡ true) ↔ Agrees (marked_trace i j) t
  agrees-seq j from w b e ev a t s =
      let d : Denotes (length_of i j) (Holds (marked_trace i j).trace t) w =
      subst (λ (f : ℕ). Denotes (length_of i j) (Holds (trace_at (length_of i j) i.words f) t) w) e (ev t s) in
      let same : SeqAccepts w ↔ AcceptsAt (Holds (marked_trace i j).trace t) = d.means.holds 0 (omega arith) in
      Iff.trans a (λ q. (λ n. same.0 (q.0 n), λ p. q.1 (same.1 p)), λ q. (λ n. same.1 (q.0 n), λ p. q.1 (same.0 p)))

  pub words-room : Checkable i k root → (j from : ℕ) → j < i.sessions → from ≡ j * i.propositions → from + i.propositions ≤ length i.words
  words-room c j from h e =
      let room : suc j * i.propositions ≤ i.sessions * i.propositions = mul-le-mul_right i.propositions h in
      let w = c.words-there in
      omega (arith, suc-mul j i.propositions, mul_comm i.sessions i.propositions)

  pub ready_for : Checkable i k root → (j from : ℕ) → j < i.sessions → from ≡ j * i.propositions → Ready (length_of i j) i.words from k root
  ready_for c j from h e =
      record {
        short = c.short j h;
        propositions = i.propositions;
        few = c.few;
        there = words-room c j from h e;
        clear = λ p q. subst (λ (f : ℕ). Wf (length_of i j) (get_or i.words (f + p) 0)) (sym e) (c.clear j p h q);
        all = c.all;
        fits = c.fits;
      }

  -- ---- the sessions one after the other

  abbrev pub Before : ℕ → Type 0
  Before j = (t : Formula) → Spells codes k root t → (h : ℕ) → h < j → Agrees (marked_trace i h) t

  pub one_more : (j : ℕ) → Before j → ((t : Formula) → Spells codes k root t → Agrees (marked_trace i j) t) → Before (j + 1)
  one_more j b a t s h l =
      ⊎_elim (λ e. subst (λ (x : ℕ). Agrees (marked_trace i x) t) (sym e) (a t s)) (λ g. b t s h g) (eq-or-lt_of_le {n = h} {m = j} (omega arith))

  -- ---- what the tests give

  pub passed : Decided (data_rows i) 0 → (Broken i.propositions k root → ⊥)
      → Checkable i k root × (i.sessions ≤ most_sessions)
  passed d u =
      let a = decided-none _ _ (lit< tt, (lit< tt, (lit< tt, (lit< tt, (lit< tt, tt))))) d in
      let b = decided-none _ _ (lit< tt, (lit< tt, (lit< tt, (lit< tt, tt)))) a.1 in
      let e = decided-none _ _ (lit< tt, (lit< tt, (lit< tt, tt))) b.1 in
      let f = decided-none _ _ (lit< tt, (lit< tt, tt)) e.1 in
      let w = whole-fits i.propositions k root u in (
        record {
          marks-there = (let x : length i.marks < i.sessions → ⊥ = λ h. b.0 (inl h) in omega arith);
          lengths-there = (let x : length i.lengths < i.sessions → ⊥ = λ h. b.0 (inr (inl h)) in omega arith);
          words-there = (let x : length i.words < i.propositions * i.sessions → ⊥ = λ h. b.0 (inr (inr h)) in omega arith);
          few = (let x : most_propositions < i.propositions → ⊥ = λ h. a.0 (inr (inr h)) in omega arith);
          short = λ j h. (let x : width < length_of i j → ⊥ = λ g. e.0 (j, h, g) in omega arith);
          clear = λ j p h q. record {
            short = (let x : width < length_of i j → ⊥ = λ g. e.0 (j, h, g) in omega arith);
            clear = λ c l. not_at (word_of i j p) c (λ g. f.0 (j, h, p, q, c, l, g));
          };
          all = w.0;
          fits = w.1;
        },
        (let x : most_sessions < i.sessions → ⊥ = λ h. a.0 (inl (inr h)) in omega arith),
      )

pub next-from : {from : ℕ} (j m : ℕ) → from ≡ j * m → from + m ≡ (j + 1) * m
next-from {from} j m e = subst (λ (x : ℕ). from + m ≡ x * m) (sym (add-one j)) (omega (arith, suc-mul j m))

module _ (i : Recording) (k : List Node) (root : Node) where
  -- the data have passed, so the list decides
  pub decided-list : (n : ℕ) → Decided (data_rows i) 0 → Decided (broken_list i.propositions k root ∷ []) n → Decided (check_rows i k root) n
  decided-list n p q = decided-later (data_rows i) (broken_list i.propositions k root ∷ []) n (lit< tt, (lit< tt, (lit< tt, (lit< tt, (lit< tt, tt))))) p q

  -- and where they have not, they do
  pub decided-data : (refusal : Refusal) → Decided (data_rows i) (refusal_number refusal) → Decided (check_rows i k root) (refusal_number refusal)
  decided-data refusal p = refused-early (data_rows i) (broken_list i.propositions k root ∷ []) refusal p

  -- both tests passed
  pub checkable : Decided (data_rows i) 0 → Decided (broken_list i.propositions k root ∷ []) 0 → Checkable i k root × (i.sessions ≤ most_sessions)
  checkable p q = passed i k root p (decided-none (broken_list i.propositions k root) [] (lit< tt, tt) q).0

  -- a refusal, handed up by `?`
  pub check-refused : (a : Result Verdict Refusal) (refusal : Refusal) → Decided (check_rows i k root) (refusal_number refusal)
      → IsErr a × IsErrAnd a (λ e. e ≡ refusal) → CheckAnswer i k root (said_verdict a)
  check-refused a refusal d h =
      subst (λ (b : Result Verdict Refusal). CheckAnswer i k root (said_verdict b)) (sym (handed-up a refusal h))
      (record { number = d; refused = λ n. refl; passed = λ z. absurd (omega (arith, refusal-positive refusal)) })

  pub sequence-refused : (j : ℕ) (a : Result (Option CharSeq) Refusal) (refusal : Refusal) → Decided (check_rows i k root) (refusal_number refusal)
      → IsErr a × IsErrAnd a (λ e. e ≡ refusal) → SequenceAnswer i k root j a
  sequence-refused j a refusal d h =
      subst (SequenceAnswer i k root j) (sym (handed-up a refusal h)) (record { number = d; carries = refusal-positive refusal })

-- ---- separation, session by session

module _ (i : Recording) (t : Formula) where
  separates-from : (a n : ℕ) → ((h : ℕ) → h < a + n → Agrees (marked_trace i h) t) → Separates (map (marked_trace i) (count a n)) t
  unfolding count
  separates-from a zero f = tt
  separates-from a (suc n) f = (f a (omega arith), separates-from (suc a) n (λ h l. f h (omega arith)))

  from-separates : (a n : ℕ) → Separates (map (marked_trace i) (count a n)) t → (h : ℕ) → a ≤ h → h < a + n → Agrees (marked_trace i h) t
  unfolding count
  from-separates a zero s h l g = absurd (omega arith)
  from-separates a (suc n) s h l g =
      ⊎_elim (λ e. subst (λ (x : ℕ). Agrees (marked_trace i x) t) e s.0) (λ q. from-separates (suc a) n s.1 h (omega arith) (omega arith)) (eq-or-lt_of_le {n = a} {m = h} l)

  pub all-agree : ((h : ℕ) → h < i.sessions → Agrees (marked_trace i h) t) → Separates (marked_traces i) t
  all-agree f = separates-from 0 i.sessions (λ h l. f h (omega arith))

  pub each-agrees : Separates (marked_traces i) t → (h : ℕ) → h < i.sessions → Agrees (marked_trace i h) t
  each-agrees s h l = from-separates 0 i.sessions s h (omega arith) (omega arith)

-- ---- the answers

module _ (i : Recording) (k : List Node) (root : Node) (c : Checkable i k root) {j : ℕ} (f : FirstApart i k root j) where
  formula : (t : Formula) × Spells codes k root t
  formula = spelled i.propositions k c.all (length k) (omega arith) root c.fits

  names-session : j < i.sessions → (t : Formula) × Spells codes k root t × VerdictSays i t (0 ∷ j ∷ [])
  names-session h =
      let t = formula in
      (t.0, t.1, inr (j, record { there = h; disagrees = f.here t.0 t.1 h; before = f.before t.0 t.1 }, refl))

  accepts-formula : i.sessions ≤ j → (t : Formula) × Spells codes k root t × VerdictSays i t (1 ∷ [])
  accepts-formula h = let t = formula in (t.0, t.1, inl (all-agree i t.0 (λ g l. f.before t.0 t.1 g (omega arith)), refl))

  -- whatever the verdict, where no row is given
  pub verdict-answers : Decided (check_rows i k root) 0 → (v : Verdict) → VerdictOn i.sessions j v → CheckAnswer i k root (said_verdict (Ok v))
  verdict-answers d v (inl (h, e)) = subst (CheckAnswer i k root) (sym e) (record { number = d; refused = λ n. absurd (n refl); passed = λ z. names-session h })
  verdict-answers d v (inr (h, e)) = subst (CheckAnswer i k root) (sym e) (record { number = d; refused = λ n. absurd (n refl); passed = λ z. accepts-formula h })
