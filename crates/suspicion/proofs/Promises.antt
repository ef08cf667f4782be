-- The lines mean what they say: the nodes that were read spell the formula that was typed, the check's answer is of what they spell, and no other answer
-- has a verdict's line.
-- Assumes nothing.
use mathlib.Core.Path.{◌≡◌, refl, sym, ap, ◌∙◌, subst}
use mathlib.Core.Logic.{inl, inr, ⊎_elim}
use mathlib.Core.List.{List, [], ◌∷◌, append-nil, head-eq_of_cons-eq, tail-eq_of_cons-eq, nil≢cons}
use Prim.Native.Nat.{ℕ, ◌-◌, ◌<◌}
use native.Mathlib.Omega.{arith}
use lib.ListN.{length, take, get_or}
use Rattle.reading.specs.Reading.{Got, got, bad, section}
use Rattle.names.specs.Names.{name_bytes, listed, names_in, whole_names}
use Rattle.names.proofs.Theorems.{names-accepts}
use Rattle.rules.specs.Refusals.{Decided}
use Rattle.rules.proofs.Refusals.{decided-unique}
use Rattle.session.specs.Recording.{Recording}
use Rattle.file.specs.Format.{Parts, Good, GoodFile}
use Rattle.file.specs.Offence.{whole_file}
use Rattle.file.proofs.Theorems.{handed-out-passes}
use Rattle.file.proofs.Whole.{passed-is-good, good-passes}
use Rattle.formula.specs.Formula.{Formula, Separates}
use Rattle.formula.specs.Recorded.{marked_traces}
use Rattle.formula.specs.Nodes.{Node, node_at, Spells, codes}
use Rattle.formula.specs.Rule.{Broken as NodesBroken}
use Rattle.verdict.specs.Check.{said_verdict, check_rows, FirstDisagrees, VerdictSays, CheckAnswer}
use Rattle.verdict.specs.declared.Verdict.{Verdict}
use Rattle.verdict.specs.declared.Verdict.TheVariants.{Accepted, Disagrees}
use Rattle.verdict.proofs.Checking.{decided-list}
use Rattle.formula.proofs.Spelled.{one-formula}
use Rattle.grammar.specs.Grammar.{Refused11}
use Rattle.grammar.proofs.Theorems.{one-tree, formula-or-offset}
use Rattle.std.proofs.Common.{Result, Ok, Err}
use Rattle.rules.specs.declared.refusal.Refusal.{Refusal}
use Rattle.rules.specs.Refusals.{refusal_number}
use Rattle.reader.specs.declared.ParseError.{ParseError}
use Rattle.reader.specs.declared.ParseError.TheVariants.{Broken, Stops, Unknown, Refused}
use Rattle.reader.specs.Words.{FirstUnknown}
use Rattle.reader.specs.Parsing.{Columns, said_parsed, Decides, parse_rows, Taken, Parses}
use Rattle.reader.proofs.Unique as reader
use Rattle.round_trip.proofs.Contracts.{Passed, parse-passed}
use Rattle.round_trip.proofs.Promises.{read-spells, read-good}
use Rattle.line.specs.Line.{refused_line, refused_at_line}
use Rattle.writing.proofs.Digits.{written-front}
use Rattle.suspicion.specs.Caret.{pointed_lines}
use Rattle.suspicion.specs.Suspicion.{recording_of, roomy, first_nodes, verdict_line, Shows, FileSays}
use Rattle.suspicion.specs.Promises.{IsTyped, TypedAnswer, TypedMeant, TypedShown, SuspicionMeans}
use Rattle.suspicion.specs.Promises.TypedAnswer.{is-separates, is-disagrees, is-stops, is-unknown, is-large}
use Rattle.suspicion.proofs.Apart.{separates-disagrees, separates-refused, separates-pointed, disagrees-refused, disagrees-pointed, disagrees-one}
use Rattle.suspicion.proofs.Sizes.{says-short}

-- ---- what the check says of a formula

said-separates : (i : Recording) (t : Formula) → VerdictSays i t (1 ∷ []) → Separates (marked_traces i) t
said-separates i t (inl (s, e)) = s
said-separates i t (inr (j, d, e)) = absurd (let z : ◌≡◌ {A = ℕ} 1 0 = head-eq_of_cons-eq e in omega arith)

said-disagrees : (i : Recording) (t : Formula) (j : ℕ) → VerdictSays i t (0 ∷ j ∷ []) → FirstDisagrees i t j
said-disagrees i t j (inl (s, e)) = absurd (let z : ◌≡◌ {A = ℕ} 0 1 = head-eq_of_cons-eq e in omega arith)
said-disagrees i t j (inr (h, d, e)) = subst (FirstDisagrees i t) (sym (head-eq_of_cons-eq (tail-eq_of_cons-eq e))) d

none_said : (i : Recording) (t : Formula) → VerdictSays i t [] → ⊥
none_said i t (inl (s, e)) = nil≢cons e
none_said i t (inr (j, d, e)) = nil≢cons e

module _ (p : Parts) (g : Good p) (text : List ℕ) where
  abbrev front : List ℕ
  front = section name_bytes p.names

  names-are : names_in front ≡ p.names
  names-are = ap listed ((names-accepts front p.names).1 ((g.some_names, g.few_names, g.names), refl))

  module _ (left : Columns) (n : ℕ) (a : Parses front text roomy left (said_parsed (Ok n))) where
    abbrev k : List Node
    k = first_nodes n left

    abbrev root : Node
    root = node_at k (n - 1)

    this : Passed front text roomy left (said_parsed (Ok n))
    this = parse-passed front text roomy left (said_parsed (Ok n)) a refl

    abbrev t : Formula
    t = this.taken.formula

    is-typed : IsTyped p.names text t
    is-typed =
        let x = this.taken in
        subst (λ (ns : List (List ℕ)). IsTyped ns text t) names-are (record {
          named = x.under;
          reads = x.reads;
          one-tree = λ u r. one-tree r x.reads;
          one-formula = λ u h r. reader.one-formula front u t h x.under (one-tree r x.reads);
        })

    -- the nodes that were read spell it
    spelled : Spells codes k root t
    spelled =
        subst (λ (m : ℕ). Spells codes (first_nodes m left) (node_at (first_nodes m left) (m - 1)) t) (sym (head-eq_of_cons-eq this.taken.values))
        (read-spells roomy t this.taken.nodes)

    checked : (i : Recording) (v : Result Verdict Refusal) → CheckAnswer i k root (said_verdict v) → (said_verdict v).number ≡ 0 → VerdictSays i t (said_verdict v).values
    checked i v c z = let (u, s, o) = c.passed z in subst (λ (f : Formula). VerdictSays i f (said_verdict v).values) (one-formula k root u t s spelled) o

    -- and the check takes them: a good file's sessions pass its tests, and what is read passes number 9
    taken : Decided (check_rows (recording_of p) k root) 0
    unfolding Decided
    taken =
        let whole : NodesBroken (length p.names) k root → ⊥ =
        subst (λ (m : ℕ). NodesBroken (length p.names) (first_nodes m left) (node_at (first_nodes m left) (m - 1)) → ⊥) (sym (head-eq_of_cons-eq this.taken.values))
        (read-good roomy t this.taken.nodes (length p.names) is-typed.named this.small) in
        decided-list (recording_of p) k root 0 (simp append-nil at (handed-out-passes p g [] [] [])) (inr (whole, refl))

  -- ---- what is answered

  module _ (out : List ℕ) (left : Columns) where
    verdict : (n : ℕ) (a : Parses front text roomy left (said_parsed (Ok n))) (v : Result Verdict Refusal)
        → CheckAnswer (recording_of p) (first_nodes n left) (node_at (first_nodes n left) (n - 1)) (said_verdict v) → out ≡ verdict_line v → TypedAnswer p text out
    verdict n a (Ok Accepted) c e =
        is-separates (t left n a) e (is-typed left n a) (said-separates (recording_of p) (t left n a) (checked left n a (recording_of p) (Ok Accepted) c refl))
    verdict n a (Ok (Disagrees s)) c e =
        is-disagrees (t left n a) s.0 e (is-typed left n a)
        (said-disagrees (recording_of p) (t left n a) s.0 (checked left n a (recording_of p) (Ok (Disagrees s)) c refl))
    verdict n a (Err refusal) c e =
        let rows = check_rows (recording_of p) (k left n a) (root left n a) in
        let z : refusal_number refusal ≡ 0 = decided-unique rows (refusal_number refusal) 0 c.number (taken left n a) in
        absurd (none_said (recording_of p) (t left n a) (checked left n a (recording_of p) (Err refusal) c z))

    no_names : {o : ℕ} → whole_names front ≡ bad o → ⊥
    no_names {o} e =
        let q : bad o ≡ got p.names (length front) = sym e ∙ (names-accepts front p.names).1 ((g.some_names, g.few_names, g.names), refl) in
        let z : ◌≡◌ {A = ℕ} 0 1 = cc in omega arith

    -- a refusal, by the row that is given
    abbrev Given : Result ℕ ParseError → Type 0
    Given x = Decides (parse_rows front text roomy) (Taken front text roomy left) (said_parsed x)

    not-broken : (o : ℕ) → Given (Err (Broken o)) → ⊥
    unfolding Decides
    not-broken o (inl a) = no_names a.1.2
    not-broken o (inr (_, inl a)) = omega (arith, a.0)
    not-broken o (inr (_, inr (_, inl a))) = omega (arith, a.0)
    not-broken o (inr (_, inr (_, inr (_, inl a)))) = omega (arith, a.0)
    not-broken o (inr (_, inr (_, inr (_, inr (_, inl a))))) = omega (arith, a.0)
    not-broken o (inr (_, inr (_, inr (_, inr (_, inr (_, inl a)))))) = omega (arith, a.0)
    not-broken o (inr (_, inr (_, inr (_, inr (_, inr (_, inr (_, x))))))) = omega (arith, x.number)

    stops : (o : ℕ) → Given (Err (Stops o)) → out ≡ pointed_lines text o 11 → TypedAnswer p text out
    unfolding Decides
    stops o (inl a) s = absurd (omega (arith, a.0))
    stops o (inr (_, inl a)) s = absurd (omega (arith, a.0))
    stops o (inr (_, inr (_, inl (_, (k, v, r))))) s = is-stops o s (subst (Refused11 text) (sym (head-eq_of_cons-eq v)) r)
    stops o (inr (_, inr (_, inr (_, inl a)))) s = absurd (omega (arith, a.0))
    stops o (inr (_, inr (_, inr (_, inr (_, inl a))))) s = absurd (omega (arith, a.0))
    stops o (inr (_, inr (_, inr (_, inr (_, inr (_, inl a)))))) s = absurd (omega (arith, a.0))
    stops o (inr (_, inr (_, inr (_, inr (_, inr (_, inr (_, x))))))) s = absurd (omega (arith, x.number))

    unknown : (o : ℕ) → Given (Err (Unknown o)) → out ≡ pointed_lines text o 13 → TypedAnswer p text out
    unfolding Decides
    unknown o (inl a) s = absurd (omega (arith, a.0))
    unknown o (inr (_, inl a)) s = absurd (omega (arith, a.0))
    unknown o (inr (_, inr (_, inl a))) s = absurd (omega (arith, a.0))
    unknown o (inr (_, inr (_, inr (f, inl (_, (k, v, u)))))) s =
        is-unknown o s (⊎_elim (λ h. h) (λ h. absurd (f (h.0 ∷ []) (h.0, refl, h.1))) (formula-or-offset text))
        (subst (λ (names : List (List ℕ)). FirstUnknown names text o) names-are (subst (FirstUnknown (names_in front) text) (sym (head-eq_of_cons-eq v)) u))
    unknown o (inr (_, inr (_, inr (_, inr (_, inl a))))) s = absurd (omega (arith, a.0))
    unknown o (inr (_, inr (_, inr (_, inr (_, inr (_, inl a)))))) s = absurd (omega (arith, a.0))
    unknown o (inr (_, inr (_, inr (_, inr (_, inr (_, inr (_, x))))))) s = absurd (omega (arith, x.number))

    large : (m : Refusal) → Given (Err (Refused m)) → out ≡ refused_line (refusal_number m) → TypedAnswer p text out
    unfolding Decides
    large m (inl a) s = absurd (nil≢cons a.1.1)
    large m (inr (_, inl (e, (_, l)))) s = is-large (s ∙ ap refused_line e) (inl l)
    large m (inr (_, inr (_, inl a))) s = absurd (nil≢cons a.1.1)
    large m (inr (_, inr (_, inr (_, inl a)))) s = absurd (nil≢cons a.1.1)
    large m (inr (_, inr (_, inr (_, inr (_, inl (e, (_, l))))))) s = is-large (s ∙ ap refused_line e) (inr l)
    large m (inr (_, inr (_, inr (_, inr (_, inr (f, inl (_, (_, (u, r, h))))))))) s = absurd (f [] (refl, inl (u, r, h)))
    large m (inr (_, inr (_, inr (_, inr (_, inr (_, inr (_, x))))))) s = absurd (nil≢cons x.values)

    answer : (x : Result ℕ ParseError) → Parses front text roomy left (said_parsed x) → Shows (recording_of p) text left x out → TypedAnswer p text out
    answer (Ok n) a (v, c, e) = verdict n a v c e
    answer (Err (Broken o)) a s = absurd (not-broken o a.answer)
    answer (Err (Stops o)) a s = stops o a.answer s
    answer (Err (Unknown o)) a s = unknown o a.answer s
    answer (Err (Refused m)) a s = large m a.answer s

  -- ---- what the lines say

  module _ (out : List ℕ) where
    meant : TypedAnswer p text out → TypedMeant p text out
    meant (is-separates t e x s) = record { answer = is-separates t e x s; separates = λ q. (t, x, s); disagrees = λ j l q. absurd (separates-disagrees j (sym e ∙ q)) }
    meant (is-disagrees t i e x d) = record {
      answer = is-disagrees t i e x d;
      separates = λ q. absurd (separates-disagrees i (sym q ∙ e));
      disagrees = λ j l q. (t, x, subst (FirstDisagrees (recording_of p) t) (disagrees-one i j (omega (arith, d.there, g.few_sessions)) l (sym e ∙ q)) d);
    }
    meant (is-stops o e r) = record {
      answer = is-stops o e r;
      separates = λ q. absurd (separates-pointed text o 11 (sym q ∙ e));
      disagrees = λ j l q. absurd (disagrees-pointed j text o 11 (sym q ∙ e));
    }
    meant (is-unknown o e f u) = record {
      answer = is-unknown o e f u;
      separates = λ q. absurd (separates-pointed text o 13 (sym q ∙ e));
      disagrees = λ j l q. absurd (disagrees-pointed j text o 13 (sym q ∙ e));
    }
    meant (is-large e x) = record {
      answer = is-large e x;
      separates = λ q. absurd (separates-refused 12 (sym q ∙ e));
      disagrees = λ j l q. absurd (disagrees-refused j 12 (sym q ∙ e));
    }

module _ (file : List ℕ) (bytes : (i : ℕ) → get_or file i 0 < 256) (text out : List ℕ) (says : FileSays (whole_file file) text out) where
  broken-says : (GoodFile file → ⊥) → (w : Got Parts) → whole_file file ≡ w → FileSays w text out → (o : ℕ) × (whole_file file ≡ bad o) × (out ≡ refused_at_line 8 o)
  broken-says f (got p next) e s = absurd (let (g, is) = passed-is-good file bytes p next e in f (p, g, is))
  broken-says f (bad o) e s = (o, e, s)

  shown-for : TypedShown file text out
  shown-for = record {
    good = λ p g e. let s = subst (λ (w : Got Parts). FileSays w text out) (good-passes file p g e) says in meant p g text out (answer p g text out s.left s.answer
        s.parses s.shows);
    broken = λ f. broken-says f (whole_file file) refl says;
  }

pub suspicion-means : SuspicionMeans
suspicion-means text file bytes old new r room w =
    let short = says-short (whole_file file) text w.lines w.says in
    let is : take r new ≡ w.lines = (written-front w.lines (omega arith) w.wrote).1 in
    subst (TypedShown file text) (sym is) (shown-for file bytes text w.lines w.says)
