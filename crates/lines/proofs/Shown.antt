-- A formula over a list that is not broken, with good names, is printed: no refusal is left.
-- Assumes nothing.
use mathlib.Core.Path.{◌≡◌, refl, sym, ap, ◌∙◌, subst}
use mathlib.Core.Logic.{inl, inr}
use mathlib.Core.List.{List, ◌++◌, head-eq_of_cons-eq, nil≢cons}
use Prim.Native.Nat.{ℕ, ◌≤◌}
use native.Mathlib.Omega.{arith}
use lib.ListN.{length, take, drop, length-append}
use lib.Seq.{take-append_seam}
use Rattle.std.specs.Prelude.{Result, Ok, Err}
use Rattle.rules.specs.Refusals.{Decided, refusal_number}
use Rattle.names.specs.Names.{whole_names}
use Rattle.reading.specs.Reading.{Got, got}
use Rattle.rules.specs.Answers.{over}
use Rattle.formula.specs.Formula.{Formula}
use Rattle.formula.specs.Nodes.{Node, Spells, codes}
use Rattle.text.specs.declared.PrintError.{PrintError}
use Rattle.text.specs.declared.PrintError.TheVariants.{Broken as NamesBroken, Refused}
use Rattle.formula.specs.Rule.{Broken}
use Rattle.text.specs.Text.{text, most_text}
use Rattle.text.specs.Print.{said_printed, print_rows, PrintAnswer, PrintsBy, Prints}
use Rattle.text.proofs.Promises.{text_in}
use Rattle.writing.specs.Writing.{Wrote, newline}
use Rattle.writing.proofs.Writing.{wrote-both}
use Rattle.reading.proofs.Readers.{got-value}
use Rattle.line.specs.Line.{found_line}
use Rattle.lines.specs.Inner.{Showable}

module _ (file : List ℕ) (k : List Node) (root : Node) (names : List (List ℕ)) (next : ℕ) (e : whole_names file ≡ got names next) (whole : Broken (length names) k root → ⊥) where
  -- what is printed
  pub record Shown (old : List ℕ) (p : Result ℕ PrintError) (new : List ℕ) : Type 0 where
    pub formula : Formula
    pub spelled : Spells codes k root formula
    pub is : p ≡ Ok (length (text names formula))
    pub holds : new ≡ over (text names formula) old
    pub fits : length (text names formula) ≤ most_text

  module _ (old : List ℕ) (room : length old ≡ most_text) where
    by_answer : (p : Result ℕ PrintError) (new : List ℕ) → PrintAnswer names k root old (said_printed p) new → Shown old p new
    unfolding Decided
    by_answer (Ok n) new a =
        let q = a.passed refl in
        record { formula = q.0; spelled = q.1; is = ap Ok (head-eq_of_cons-eq q.2); holds = q.3; fits = text_in file k root names next e whole q.0 q.1 }
    by_answer (Err (NamesBroken o)) new a = absurd (no-eight a.number)
      where
        no-eight : Decided (print_rows names k root old) 8 → ⊥
        no-eight (inl d) = omega (arith, d.1)
        no-eight (inr (b, inl d)) = omega (arith, d.1)
        no-eight (inr (b, inr d)) = omega (arith, d.1)
    by_answer (Err (Refused refusal)) new a = absurd (none-given a.number)
      where
        none-given : Decided (print_rows names k root old) (refusal_number refusal) → ⊥
        none-given (inl d) = whole d.0
        none-given (inr (b, inl ((t, s, l), d))) = let h = text_in file k root names next e whole t s in omega arith
        none-given (inr (b, inr d)) = nil≢cons (a.passed d.1).2

    pub shown : (p : Result ℕ PrintError) (new : List ℕ) → Prints file k root old (said_printed p) new → Shown old p new
    shown p new w = by_answer p new (subst (λ (g : Got (List (List ℕ))). PrintsBy g k root old (said_printed p) new) e w)

-- the start of the room is the text
pub front : (bytes old : List ℕ) (n : ℕ) → n ≡ length bytes → take n (over bytes old) ≡ bytes
front bytes old n e = ap (λ (m : ℕ). take m (over bytes old)) e ∙ take-append_seam bytes _

module _ (file : List ℕ) (k : List Node) (root : Node) (s : Showable file k root) (old : List ℕ) (room : length old ≡ most_text) (p : Result ℕ PrintError) (new : List ℕ)
    (w : Prints file k root old (said_printed p) new) where
  -- the bytes at the start of the room are the text
  pub record Front (n : ℕ) : Type 0 where
    pub formula : Formula
    pub spelled : Spells codes k root formula
    pub few : n ≤ most_text
    pub there : n ≤ length new
    pub long : n ≡ length (text s.names formula)
    pub is : take n new ≡ text s.names formula

  this : Shown file k root s.names s.next s.good s.whole old p new
  this = shown file k root s.names s.next s.good s.whole old room p new w

  pub text-front : {n : ℕ} → p ≡ Ok n → Front n
  text-front {n} e =
      let a = this in
      let l : n ≡ length (text s.names a.formula) = cc (a.is, e) in
      record {
        formula = a.formula;
        spelled = a.spelled;
        few = omega (arith, a.fits);
        there = omega (arith, ap length a.holds, length-append (text s.names a.formula) (drop (length (text s.names a.formula)) old));
        long = l;
        is = ap (take n) a.holds ∙ front (text s.names a.formula) old n l;
      }

  -- the counts, the text and the line's end, one after the other
  pub found-written : {n : ℕ} → Front n → (names : List (List ℕ)) (next : ℕ) → whole_names file ≡ got names next → (size tried kept dropped : ℕ) → kept ≡ length k
      → {l m x q : List ℕ} {a b r : ℕ} → Wrote l 0 (found_line size tried kept dropped) m a → Wrote m a (take n new) x b → Wrote x b newline q r
      → (t : Formula) × Spells codes k root t × Wrote l 0 (found_line size tried (length k) dropped ++ (text names t ++ newline)) q r
  found-written {n} f names next e size tried kept dropped h {l} {m} {x} {q} {a} {b} {r} u v z =
      let same : s.names ≡ names = got-value (sym s.good ∙ e) in (
        f.formula,
        f.spelled,
        subst (λ (j : ℕ). Wrote l 0 (found_line size tried j dropped ++ (text names f.formula ++ newline)) q r) h
            (wrote-both (found_line size tried kept dropped) (text names f.formula ++ newline) u
            (wrote-both (text names f.formula) newline
            (subst (λ (y : List ℕ). Wrote m a y x b) (f.is ∙ ap (λ (ns : List (List ℕ)). text ns f.formula) same) v) z)),
      )

  pub no_error : {why : PrintError} → p ≡ Err why → ⊥
  no_error e = let a = this in let z : ◌≡◌ {A = ℕ} 0 1 = cc (a.is, e) in omega arith
