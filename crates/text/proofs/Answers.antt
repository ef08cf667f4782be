-- What print answers, from the names, the list and what was written.
-- Assumes nothing.
use mathlib.Core.Path.{◌≡◌, refl, sym, ap, ◌∙◌, subst}
use mathlib.Core.Logic.{inl, inr}
use mathlib.Core.Bool.{true≢false}
use mathlib.Core.List.{List, [], ◌∷◌, ◌++◌, head-eq_of_cons-eq}
use Prim.Native.Nat.{ℕ, ◌+◌, ◌≤◌, ◌<◌}
use native.Mathlib.Omega.{arith}
use lib.Dec.{lit<}
use lib.ListN.{length, take, drop}
use lib.Seq.{sets, sets-eq}
use Rattle.rules.specs.Refusals.{Decided, refusal_number}
use Rattle.rules.proofs.Refusals.{decided-none, refused-early, refusal-positive}
use Rattle.std.specs.Prelude.{Result, Ok, Err, IsErr, IsErrAnd}
use Rattle.rules.specs.declared.refusal.Refusal.{Refusal}
use Rattle.reading.specs.declared.Broken.{Broken}
use Rattle.text.specs.declared.PrintError.{PrintError}
use Rattle.text.specs.declared.PrintError.TheVariants as error
use Rattle.reading.specs.Reading.{Got, got, bad, broken}
use Rattle.names.specs.Names.{whole_names, listed, names_in, GoodNames}
use Rattle.rules.specs.Answers.{Said, over}
use Rattle.names.specs.Judged.{said_names, said_of_names, names_said}
use Rattle.writing.specs.Writing.{Wrote}
use Rattle.writing.proofs.Writing.{wrote-whole}
use Rattle.writing.proofs.Digits.{written-front}
use Rattle.formula.specs.Formula.{Formula}
use Rattle.formula.specs.Nodes.{Node, Spells, codes}
use Rattle.formula.specs.Rule.{broken_list}
use Rattle.text.specs.Text.{text, most_text}
use Rattle.text.specs.Print.{said_printed, short_text_room, PrintAnswer, PrintsBy, Prints}
use Rattle.text.specs.Inner.{Passed, Printable, TextWritten}
use Rattle.formula.proofs.Faults.{whole-fits}
use Rattle.text.proofs.Printing.{formula-of, text-bound}

-- ---- the names

module _ (file : List ℕ) where
  pub names-good : (m : ℕ) → said_names (Ok m) ≡ names_said file → GoodNames file × (m ≡ length (names_in file))
  names-good m e = go (whole_names file) refl e
    where
      go : (g : Got (List (List ℕ))) → whole_names file ≡ g → said_names (Ok m) ≡ said_of_names g → GoodNames file × (m ≡ length (names_in file))
      go (got names next) w h =
          let n : names_in file ≡ names = ap listed w in
          let z : m ≡ length names = head-eq_of_cons-eq (ap (λ (s : Said). s.values) h) in
          ((next, w ∙ ap (λ (l : List (List ℕ)). got l next) (sym n)), z ∙ ap length (sym n))
      go (bad o) w h = let z : ◌≡◌ {A = ℕ} 0 8 = ap (λ (s : Said). s.number) h in absurd (omega arith)

  pub names-broken : (o : Broken) → said_names (Err o) ≡ names_said file → whole_names file ≡ bad o.0
  names-broken o e = go (whole_names file) refl e
    where
      go : (g : Got (List (List ℕ))) → whole_names file ≡ g → said_names (Err o) ≡ said_of_names g → whole_names file ≡ bad o.0
      go (got names next) w h = let z : ◌≡◌ {A = ℕ} 8 0 = ap (λ (s : Said). s.number) h in absurd (omega arith)
      go (bad p) w h = w ∙ ap bad (sym (head-eq_of_cons-eq (ap (λ (s : Said). s.values) h)))

-- ---- what `?` hands up

handed : (a : Result ℕ PrintError) (error : PrintError) → IsErr a × IsErrAnd a (λ e. e ≡ error) → Err error ≡ a
handed (Ok n) error h = absurd (true≢false (sym h.0))
handed (Err e) error h = ap Err (sym h.1)

pub prints-broken : (file : List ℕ) (k : List Node) (root : Node) (old : List ℕ) (o : Broken) (a : Result ℕ PrintError) → whole_names file ≡ bad o.0
    → IsErr a × IsErrAnd a (λ e. e ≡ error.Broken o.0) → Prints file k root old (said_printed a) old
prints-broken file k root old o a e h =
    subst (λ (r : Result ℕ PrintError). Prints file k root old (said_printed r) old) (handed a (error.Broken o.0) h)
    (subst (λ (g : Got (List (List ℕ))). PrintsBy g k root old (broken o.0) old) (sym e) (refl, refl))

-- ---- the list and the room

module _ (file : List ℕ) (g : GoodNames file) (k : List Node) (root : Node) (old : List ℕ) where
  prints : (s : Said) (new : List ℕ) → PrintAnswer (names_in file) k root old s new → Prints file k root old s new
  prints s new a = subst (λ (x : Got (List (List ℕ))). PrintsBy x k root old s new) (sym g.1) a

  module _ {m : ℕ} (n : m ≡ length (names_in file)) where
    this : (b : ℕ) → Decided (broken_list m k root ∷ []) b → Decided (broken_list (length (names_in file)) k root ∷ []) b
    this b d = subst (λ (x : ℕ). Decided (broken_list x k root ∷ []) b) n d

    pub prints-nine : (refusal : Refusal) (a : Result ℕ PrintError) → Decided (broken_list m k root ∷ []) (refusal_number refusal)
        → IsErr a × IsErrAnd a (λ e. e ≡ error.Refused refusal) → Prints file k root old (said_printed a) old
    prints-nine refusal a d h =
        subst (λ (r : Result ℕ PrintError). Prints file k root old (said_printed r) old) (handed a (error.Refused refusal) h)
        (prints (record { number = refusal_number refusal; values = [] }) old record {
          number =
              refused-early (broken_list (length (names_in file)) k root ∷ []) (short_text_room (names_in file) k root old ∷ []) refusal
              (this (refusal_number refusal) d);
          refused = λ z. (refl, refl);
          passed = λ z. absurd (omega (arith, refusal-positive refusal));
        })

    pub passed-both : Decided (broken_list m k root ∷ []) 0 → Passed file k root
    passed-both d = record { good = g; whole = (decided-none (broken_list (length (names_in file)) k root) [] (lit< tt, tt) (this 0 d)).0 }

-- ---- the text, in a room of its own

module _ (file : List ℕ) (k : List Node) (root : Node) (old : List ℕ) (p : Passed file k root) where
  pub printable : Printable file k root
  printable = let w = whole-fits (length (names_in file)) k root p.whole in record { good = p.good; all = w.0; fits = w.1 }

  module _ {room whole : List ℕ} {n : ℕ} (long : length room ≡ most_text) (w : TextWritten file k root room 0 whole n) where
    -- whatever formula the root spells, its text stands at the start
    pub whole-text : (t : Formula) → Spells codes k root t → (n ≤ length whole) × (take n whole ≡ text (names_in file) t) × (n ≡ length (text (names_in file) t))
    whole-text t s =
        let h = text-bound file k printable t s in
        let f = written-front (text (names_in file) t) (omega arith) (w t s) in
        let e = wrote-whole (text (names_in file) t) (w t s) (omega arith) in
        (f.0, f.1, omega arith)

    pub text-ends : n ≤ length whole
    text-ends = let t = formula-of file k printable in (whole-text t.0 t.1).0

    pub prints-three : length old < n → Prints file k root old (record { number = 3; values = [] }) old
    unfolding Decided
    prints-three h =
        let t = formula-of file k printable in
        prints file p.good k root old (record { number = 3; values = [] }) old record {
          number = inr (p.whole, inl ((t.0, t.1, (let q = (whole-text t.0 t.1).2 in omega arith)), refl));
          refused = λ z. (refl, refl);
          passed = λ e. absurd (omega arith);
        }

    pub prints-text : n ≤ length old → {new : List ℕ} {r : ℕ} → Wrote old 0 (take n whole) new r → Prints file k root old (record { number = 0; values = r ∷ [] }) new
    unfolding Decided
    prints-text h {new} {r} v =
        let t = formula-of file k printable in
        let e = whole-text t.0 t.1 in
        let q = e.2 in
        let bytes = text (names_in file) t.0 in
        let u : Wrote old 0 bytes new r = subst (λ (x : List ℕ). Wrote old 0 x new r) e.1 v in
        let front : sets old 0 bytes ≡ over bytes old = sets-eq bytes old 0 (omega arith) ∙ ap (λ (i : ℕ). bytes ++ drop i old) (let i : 0 + length bytes ≡ length bytes = omega arith in i) in
        let l : r ≡ length bytes = omega (arith, wrote-whole bytes u (omega arith)) in
        prints file p.good k root old (record { number = 0; values = r ∷ [] }) new record {
          number = inr (p.whole, inr (λ c. (let x = (whole-text c.0 c.1).2 in omega (arith, c.2)), refl));
          refused = λ z. absurd (z refl);
          passed = λ z. (t.0, t.1, ap (λ (i : ℕ). i ∷ []) l, u.holds ∙ front);
        }
