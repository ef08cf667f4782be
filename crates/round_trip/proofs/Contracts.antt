-- What print's contract says of a list that it takes, and parse's of a text that it must take.
-- Assumes nothing.
use mathlib.Core.Path.{◌≡◌, refl, sym, ap, subst, ◌∙◌}
use mathlib.Core.Logic.{◌⊎◌, inl, inr, ⊎_elim}
use mathlib.Core.List.{List, [], ◌∷◌}
use Prim.Native.Nat.{ℕ, ◌+◌, ◌≤◌, ◌<◌}
use native.Mathlib.Omega.{arith}
use native.Mathlib.Decide.{dec_le}
use lib.ListN.{length}
use Rattle.rules.specs.Refusals.{Decided}
use Rattle.rules.specs.Answers.{Said, over}
use Rattle.rules.specs.Limits.{most_size}
use Rattle.reading.specs.Reading.{Got, got, bad}
use Rattle.names.specs.Names.{whole_names, listed, names_in, GoodNames}
use Rattle.formula.specs.Formula.{size, leaf, unary, binary, Formula}
use Rattle.formula.specs.Nodes.{Node, Spells, codes}
use Rattle.formula.specs.Rule.{Broken}
use Rattle.formula.proofs.Spelled.{one-formula}
use Rattle.text.specs.Text.{text}
use Rattle.text.specs.Print.{print_rows, PrintAnswer, PrintsBy, Prints}
use Rattle.grammar.specs.Token.{Typed}
use Rattle.grammar.specs.Grammar.{Reads}
use Rattle.grammar.specs.Naming.{typed}
use Rattle.grammar.proofs.Theorems.{one-tree, formula-not-refused}
use Rattle.typed.specs.Words.{UnknownAt, Deep}
use Rattle.reader.specs.Words.{most_bytes}
use Rattle.reader.specs.Parsing.{Columns, room_of, Decides, parse_rows, Taken, Parses}

-- a section that is read is good
pub good-names : (file : List ℕ) {ns : List (List ℕ)} {next : ℕ} → whole_names file ≡ got ns next → GoodNames file
good-names file {ns} {next} e = (next, e ∙ ap (λ (x : List (List ℕ)). got x next) (sym (ap listed e)))

-- ---- print

-- where it writes a text
pub record Printed (names : List (List ℕ)) (k : List Node) (root : Node) (room : List ℕ) (s : Said) (out : List ℕ) : Type 0 where
  pub whole : Broken (length names) k root → ⊥
  pub formula : Formula
  pub spelled : Spells codes k root formula
  pub values : s.values ≡ length (text names formula) ∷ []
  pub is : out ≡ over (text names formula) room

module _ (file : List ℕ) (k : List Node) (root : Node) (room : List ℕ) (s : Said) (out : List ℕ) where
  pub print-passed : Prints file k root room s out → s.number ≡ 0 → GoodNames file × Printed (names_in file) k root room s out
  unfolding Decided
  print-passed w z = by_names (whole_names file) refl w
    where
      not-broken : (ns : List (List ℕ)) → Decided (print_rows ns k root room) s.number → Broken (length ns) k root → ⊥
      not-broken ns (inl d) b = omega (arith, d.1)
      not-broken ns (inr d) b = d.0 b

      by_names : (g : Got (List (List ℕ))) → whole_names file ≡ g → PrintsBy g k root room s out → GoodNames file × Printed (names_in file) k root room s out
      by_names (bad o) e a = absurd (let n = ap (λ (x : Said). x.number) a.0 in omega arith)
      by_names (got ns next) e a =
          let p = a.passed z in
          let r : Printed ns k root room s out = record { whole = not-broken ns a.number; formula = p.0; spelled = p.1; values = p.2; is = p.3 } in
          (good-names file e, subst (λ (x : List (List ℕ)). Printed x k root room s out) (sym (ap listed e)) r)

  -- a list that is not broken, with room for the text
  pub print-takes : GoodNames file → (Broken (length (names_in file)) k root → ⊥) → (t : Formula) → Spells codes k root t → length (text (names_in file) t) ≤ length room
      → Prints file k root room s out → (s.number ≡ 0) × (s.values ≡ length (text (names_in file) t) ∷ []) × (out ≡ over (text (names_in file) t) room)
  unfolding Decided
  print-takes g whole t sp fits w =
      let a : PrintAnswer (names_in file) k root room s out = subst (λ (x : Got (List (List ℕ))). PrintsBy x k root room s out) g.1 w in
      let z = zero_of a.number in
      let p = a.passed z in
      let e : p.0 ≡ t = one-formula k root p.0 t p.1 sp in
      (z, p.2 ∙ ap (λ (x : Formula). length (text (names_in file) x) ∷ []) e, p.3 ∙ ap (λ (x : Formula). over (text (names_in file) x) room) e)
    where
      zero_of : Decided (print_rows (names_in file) k root room) s.number → s.number ≡ 0
      zero_of (inl d) = absurd (whole d.0)
      zero_of (inr (b, inl (x, d))) =
          let e : x.0 ≡ t = one-formula k root x.0 t x.1 sp in
          let l : length (text (names_in file) x.0) ≡ length (text (names_in file) t) = ap (λ (y : Formula). length (text (names_in file) y)) e in
          absurd (omega (arith, x.2))
      zero_of (inr (b, inr d)) = omega arith

-- ---- parse

pub typed-size : (names : List (List ℕ)) (t : Formula) → size (typed names t) ≡ size t
unfolding typed
typed-size names (leaf c) = refl
typed-size names (unary u t) = ap (λ (n : ℕ). 1 + n) (typed-size names t)
typed-size names (binary o l r) = let a = typed-size names l in let b = typed-size names r in omega arith

module _ (file bytes : List ℕ) (old new : Columns) (p : Said) where
  -- no row is given
  pub parse-takes : GoodNames file → length bytes ≤ most_bytes → (t : Typed) → Reads bytes t → ((k : ℕ) → UnknownAt (names_in file) bytes k → ⊥) → (Deep bytes → ⊥) → size t ≤ most_size
      → size t ≤ room_of old → Parses file bytes old new p → Taken file bytes old new p
  unfolding Decides
  parse-takes g short t reads known flat small room w = by_row w.answer
    where
      same_size : {u : Typed} → Reads bytes u → size u ≡ size t
      same_size r = ap size (one-tree r reads)

      by_row : Decides (parse_rows file bytes old) (Taken file bytes old new) p → Taken file bytes old new p
      by_row (inl a) = absurd (let e : bad a.1.0 ≡ got (names_in file) g.0 = sym a.1.2 ∙ g.1 in let z : ◌≡◌ {A = ℕ} 0 1 = cc in omega arith)
      by_row (inr (_, inl a)) = absurd (omega (arith, a.1.1))
      by_row (inr (_, inr (_, inl a))) = absurd (formula-not-refused (t, reads) a.1.2)
      by_row (inr (_, inr (_, inr (_, inl a)))) = absurd (known a.1.0 a.1.2.here)
      by_row (inr (_, inr (_, inr (_, inr (_, inl a))))) = absurd (⊎_elim (λ x. omega (arith, x.2, same_size x.1)) flat a.1.1)
      by_row (inr (_, inr (_, inr (_, inr (_, inr (_, inl a)))))) = absurd (omega (arith, a.1.1.2, same_size a.1.1.1))
      by_row (inr (_, inr (_, inr (_, inr (_, inr (_, inr (_, x))))))) = x

  -- where it takes the text: the names are good, and the formula is small and has room
  pub record Passed : Type 0 where
    pub good : GoodNames file
    pub taken : Taken file bytes old new p
    pub small : size taken.formula ≤ most_size
    pub room : size taken.formula ≤ room_of old

  pub parse-passed : Parses file bytes old new p → p.number ≡ 0 → Passed
  unfolding Decides
  parse-passed w z = by_row w.answer
    where
      good : ((vs : List ℕ) → ((o : ℕ) × (vs ≡ o ∷ []) × (whole_names file ≡ bad o)) → ⊥) → (g : Got (List (List ℕ))) → whole_names file ≡ g → GoodNames file
      good n (bad o) e = absurd (n (o ∷ []) (o, refl, e))
      good n (got ns next) e = good-names file e

      at_most : (n most : ℕ) → (most < n → ⊥) → n ≤ most
      at_most n most f = elim (dec_le n most) [ yes h ↦ h | no h ↦ absurd (f (omega arith)) ]

      by_row : Decides (parse_rows file bytes old) (Taken file bytes old new) p → Passed
      by_row (inl a) = absurd (omega (arith, a.0))
      by_row (inr (_, inl a)) = absurd (omega (arith, a.0))
      by_row (inr (_, inr (_, inl a))) = absurd (omega (arith, a.0))
      by_row (inr (_, inr (_, inr (_, inl a)))) = absurd (omega (arith, a.0))
      by_row (inr (_, inr (_, inr (_, inr (_, inl a))))) = absurd (omega (arith, a.0))
      by_row (inr (_, inr (_, inr (_, inr (_, inr (_, inl a)))))) = absurd (omega (arith, a.0))
      by_row (inr (n, inr (_, inr (_, inr (_, inr (l, inr (f, x))))))) =
          let t = typed (names_in file) x.formula in
          let e = typed-size (names_in file) x.formula in
          record {
            good = good n (whole_names file) refl;
            taken = x;
            small = (let m = at_most (size t) most_size (λ h. l [] (refl, inl (t, x.reads, h))) in omega arith);
            room = (let m = at_most (size t) (room_of old) (λ h. f [] (refl, (t, x.reads, h))) in omega arith);
          }
