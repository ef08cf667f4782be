-- Uniqueness: any two results that print's contract allows for the same input are equal, what the lent room holds too.
-- Assumes nothing.
use mathlib.Core.Path.{◌≡◌, sym, ap, ap₂, ◌∙◌}
use mathlib.Core.List.{List, [], ◌∷◌, head-eq_of_cons-eq, nil≢cons}
use Prim.Native.Nat.{ℕ}
use native.Mathlib.Decide.{ℕ_discrete}
use native.Mathlib.Omega.{arith}
use lib.ListN.{length}
use Rattle.rules.proofs.Refusals.{decided-unique, refusal-one}
use Rattle.reading.specs.Reading.{Got, got, bad}
use Rattle.names.specs.Names.{whole_names}
use Rattle.rules.specs.Answers.{Said, over}
use Rattle.rules.specs.declared.refusal.Refusal.{Refusal}
use Rattle.formula.specs.Nodes.{Node}
use Rattle.std.specs.Prelude.{Result, Ok, Err}
use Rattle.text.specs.declared.PrintError.{PrintError}
use Rattle.text.specs.declared.PrintError.TheVariants.{Broken, Refused}
use Rattle.text.specs.Text.{text}
use Rattle.text.specs.Print.{said_printed, PrintAnswer, PrintsBy, Prints}
use Rattle.formula.proofs.Spelled.{one-formula}

said : ℕ → List ℕ → Said
said n vs = record { number = n; values = vs }

same-said : (s r : Said) → s.number ≡ r.number → s.values ≡ r.values → s ≡ r
unfolding said
same-said s r p q = ap₂ said p q

module _ (names : List (List ℕ)) (k : List Node) (root : Node) (old : List ℕ) where
  same-print : (s r : Said) (new later : List ℕ) → PrintAnswer names k root old s new → PrintAnswer names k root old r later → (s ≡ r) × (new ≡ later)
  same-print s r new later a b =
      let n = decided-unique _ s.number r.number a.number b.number in
      elim (ℕ_discrete s.number 0) [
        | yes e ↦
            let p = a.passed e in
            let q = b.passed (sym n ∙ e) in
            let t = ap (text names) (one-formula k root p.0 q.0 p.1 q.1) in
            (same-said s r n (p.2 ∙ ap (λ (x : List ℕ). length x ∷ []) t ∙ sym q.2), p.3 ∙ ap (λ (x : List ℕ). over x old) t ∙ sym q.3)
        | no e ↦
            let p = a.refused e in
            let q = b.refused (λ z. e (n ∙ z)) in
            (same-said s r n (p.0 ∙ sym q.0), p.1 ∙ sym q.1)
      ]

same_by : (g : Got (List (List ℕ))) (k : List Node) (root : Node) (old : List ℕ) (s r : Said) (new later : List ℕ)
    → PrintsBy g k root old s new → PrintsBy g k root old r later → (s ≡ r) × (new ≡ later)
same_by (bad o) k root old s r new later a b = (a.0 ∙ sym b.0, a.1 ∙ sym b.1)
same_by (got names next) k root old s r new later a b = same-print names k root old s r new later a b

printed-one : (p q : Result ℕ PrintError) → said_printed p ≡ said_printed q → p ≡ q
printed-one (Ok n) (Ok m) e = ap Ok (head-eq_of_cons-eq (ap (λ (s : Said). s.values) e))
printed-one (Ok n) (Err (Broken o)) e = let z = ap (λ (s : Said). s.number) e in absurd (omega arith)
printed-one (Ok n) (Err (Refused m)) e = absurd (nil≢cons (sym (ap (λ (s : Said). s.values) e)))
printed-one (Err (Broken o)) (Ok m) e = let z = ap (λ (s : Said). s.number) e in absurd (omega arith)
printed-one (Err (Broken o)) (Err (Broken u)) e = ap (λ (o : ℕ). Err (Broken o)) (head-eq_of_cons-eq (ap (λ (s : Said). s.values) e))
printed-one (Err (Broken o)) (Err (Refused m)) e = absurd (nil≢cons (sym (ap (λ (s : Said). s.values) e)))
printed-one (Err (Refused n)) (Ok m) e = absurd (nil≢cons (ap (λ (s : Said). s.values) e))
printed-one (Err (Refused n)) (Err (Broken o)) e = absurd (nil≢cons (ap (λ (s : Said). s.values) e))
printed-one (Err (Refused n)) (Err (Refused m)) e = ap (λ (r : Refusal). Err (Refused r)) (refusal-one n m (ap (λ (s : Said). s.number) e))

-- the answer, and what the lent room holds
pub print-unique : (file : List ℕ) (k : List Node) (root : Node) (old : List ℕ) (p q : Result ℕ PrintError) (new later : List ℕ)
    → Prints file k root old (said_printed p) new → Prints file k root old (said_printed q) later → (p ≡ q) × (new ≡ later)
print-unique file k root old p q new later a b =
    let e = same_by (whole_names file) k root old (said_printed p) (said_printed q) new later a b in
    (printed-one p q e.0, e.1)
