-- Printing at the boundary: a names section's offset is small enough for its number, and every text has a byte, so that with no room lent the
-- core refuses with 8, 9 or 3.
-- Assumes nothing.
use mathlib.Core.Path.{◌≡◌, refl, sym, ap, ◌∙◌}
use mathlib.Core.Logic.{inl, inr}
use mathlib.Core.Bool.{true, false}
use mathlib.Core.List.{List, [], ◌∷◌}
use Prim.Native.Nat.{ℕ, ◌^◌, ◌≤◌, ◌<◌}
use native.Mathlib.Decide.{ℕ_discrete, dec_lt}
use native.Mathlib.Omega.{arith}
use lib.Dec.{lit≤}
use lib.ListN.{length}
use Rattle.rules.specs.Refusals.{Decided}
use Rattle.names.specs.Names.{GoodName, names_up_to, whole_names}
use Rattle.reading.specs.Reading.{Got, got, bad}
use Rattle.rules.specs.Limits.{most_propositions}
use Rattle.rules.specs.Answers.{Said}
use Rattle.reading.proofs.Ends.{end-sound, each_at}
use Rattle.names.proofs.NameLaws.{names-sound}
use Rattle.file.proofs.Offsets.{names-offset-small}
use Rattle.formula.specs.Formula.{leaf, unary, binary, proposition, constant, Formula}
use Rattle.formula.specs.Nodes.{Node, Spells, codes}
use Rattle.std.specs.Prelude.{Result}
use Rattle.text.specs.declared.PrintError.{PrintError}
use Rattle.formula.specs.Rule.{no_proposition, Broken, rooted}
use Rattle.text.specs.Text.{text}
use Rattle.text.specs.Print.{said_printed, print_rows, PrintAnswer, PrintsBy, Prints}
use Rattle.text.proofs.Texts.{length-unary, length-binary}
use Rattle.out.specs.Out.{out_words, broken_at, number_with, words_with, written, returned_of, said_words}
use Rattle.out.specs.Unanswered.{OffsetFits}
use Rattle.out_print.specs.Print.{PrintNumber, PrintDone}
use Rattle.out_print.specs.Inner.{PrintUnanswered}

-- ---- what is returned, and named, where the number is 0 or there are no values

zero_number : (n : ℕ) (values : List ℕ) → n ≡ 0 → number_with n values ≡ n
zero_number n [] z = refl
zero_number n (v ∷ vs) z = rw z refl

returns-number : (s : Said) → s.values ≡ [] → returned_of s ≡ s.number
returns-number s e = ap (number_with s.number) e

no_words : (s : Said) (old : List ℕ) → s.values ≡ [] → written (said_words s) old ≡ old
no_words s old e = ap (λ (v : List ℕ). written (words_with s.number v) old) e

-- ---- the number

module _ (names : List (List ℕ)) (k : List Node) (root : Node) (room : List ℕ) where
  not_eight : (n : ℕ) → Decided (print_rows names k root room) n → n ≡ 8 → ⊥
  unfolding Decided
  not_eight n (inl p) e = omega (arith, p.1)
  not_eight n (inr (p, inl q)) e = omega (arith, q.1)
  not_eight n (inr (p, inr (q, z))) e = omega arith

pub print-fits : (file : List ℕ) (k : List Node) (root : Node) (room : List ℕ) (s : Said) (new : List ℕ) → Prints file k root room s new → OffsetFits s
print-fits file k root room s new a o b = go (whole_names file) refl a
  where
    go : (g : Got (List (List ℕ))) → whole_names file ≡ g → PrintsBy g k root room s new → broken_at o < 2 ^ 32
    go (bad u) w p =
        let v : o ∷ [] ≡ u ∷ [] = ap (λ (x : Said). x.values) (sym b ∙ p.0) in
        let z : o ≡ u = cc in
        omega (arith, names-offset-small file u w)
    go (got names next) w p = absurd (not_eight names k root room s.number p.number (ap (λ (x : Said). x.number) b))

-- ---- a text is not empty

module _ (file : List ℕ) (names : List (List ℕ)) (next : ℕ) (w : whole_names file ≡ got names next) where
  name-some : (p : ℕ) → p < length names → 1 ≤ length (text names (leaf (proposition p)))
  name-some p h =
      let s = names-sound file most_propositions 0 (end-sound file (names_up_to most_propositions file 0) w).0 in
      (each_at GoodName [] names [] s.fits p h).some

  module _ (k : List Node) (root : Node) (whole : Broken (length names) k root → ⊥) where
    below : (p : ℕ) → Spells codes k root (leaf (proposition p)) → p < length names
    below p s =
        elim (dec_lt p (length names)) [
          | yes h ↦ h
          | no h ↦ absurd (whole (rooted (no_proposition s.0 (omega (arith, s.1)))))
        ]

    text-some : (t : Formula) → Spells codes k root t → 1 ≤ length (text names t)
    text-some (leaf (proposition p)) s = name-some p (below p s)
    text-some (leaf (constant true)) s = lit≤ tt
    text-some (leaf (constant false)) s = lit≤ tt
    text-some (unary op t) s = omega (arith, length-unary names op t)
    text-some (binary op l r) s = omega (arith, length-binary names op l r)

-- ---- `out` is too short

module _ (file : List ℕ) (k : List Node) (root : Node) where
  pub unanswered : (s : Said) (new : List ℕ) → Prints file k root [] s new → PrintUnanswered (whole_names file) k root (returned_of s)
  unfolding Decided
  unanswered s new a = go (whole_names file) refl a
    where
      rows : (names : List (List ℕ)) (next : ℕ) → whole_names file ≡ got names next → PrintAnswer names k root [] s new
          → Decided (print_rows names k root []) s.number → PrintUnanswered (got names next) k root (returned_of s)
      rows names next w a (inl p) = inl (p.0, returns-number s (a.refused (λ z. omega (arith, p.1))).0 ∙ p.1)
      rows names next w a (inr (p, inl q)) = inr (p, inl (tt, returns-number s (a.refused (λ z. omega (arith, q.1))).0 ∙ q.1))
      rows names next w a (inr (p, inr (q, z))) =
          let t = a.passed z in
          absurd (q (t.0, t.1, text-some file names next w k root p t.0 t.1))

      go : (g : Got (List (List ℕ))) → whole_names file ≡ g → PrintsBy g k root [] s new → PrintUnanswered g k root (returned_of s)
      go (bad o) w p = ap returned_of p.0
      go (got names next) w p = rows names next w p p.number

  module _ (room old : List ℕ) where
    pub print-short : length old < out_words → (n : ℕ) → PrintUnanswered (whole_names file) k root n → PrintDone file k root room old n room old
    unfolding Decided
    print-short h n d = record { number = number (whole_names file) d; refused = λ _. (refl, refl); passed = λ z. absurd (not-answered (whole_names file) d z) }
      where
        rows : (names : List (List ℕ)) (next : ℕ) → PrintUnanswered (got names next) k root n → PrintNumber (got names next) k root room old n
        rows names next (inl p) = inl p
        rows names next (inr (p, inl q)) = inr (p, inl (h, q.1))
        rows names next (inr (p, inr (q, z))) = absurd (q tt)

        number : (g : Got (List (List ℕ))) → PrintUnanswered g k root n → PrintNumber g k root room old n
        number (bad o) e = e
        number (got names next) e = rows names next e

        some : (names : List (List ℕ)) (next : ℕ) → PrintUnanswered (got names next) k root n → n ≡ 0 → ⊥
        some names next (inl p) z = omega (arith, p.1)
        some names next (inr (p, inl q)) z = omega (arith, q.1)
        some names next (inr (p, inr (q, e))) z = q tt

        not-answered : (g : Got (List (List ℕ))) → PrintUnanswered g k root n → n ≡ 0 → ⊥
        not-answered (bad o) e z = omega arith
        not-answered (got names next) e z = some names next e z

    -- ---- `out` is long enough

    module _ (h : out_words ≤ length old) (s : Said) (room' new : List ℕ) (e : new ≡ written (said_words s) old) where
      -- the number is 0, or there are no values
      plain : (names : List (List ℕ)) → PrintAnswer names k root room s room' → returned_of s ≡ s.number
      plain names a =
          elim (ℕ_discrete s.number 0) [
            | yes z ↦ zero_number s.number s.values z
            | no z ↦ returns-number s (a.refused z).0
          ]

      behind : (names : List (List ℕ)) (next n : ℕ) → Decided (print_rows names k root room) n → PrintNumber (got names next) k root room old n
      unfolding Decided
      behind names next n (inl p) = inl p
      behind names next n (inr (p, d)) = inr (p, inr (λ g. omega arith, d))

      number : (g : Got (List (List ℕ))) → PrintsBy g k root room s room' → PrintNumber g k root room old (returned_of s)
      number (bad o) a = ap returned_of a.0
      number (got names next) a = rw (plain names a) (behind names next s.number a.number)

      refused : (g : Got (List (List ℕ))) → PrintsBy g k root room s room' → (returned_of s ≡ 0 → ⊥) → (room' ≡ room) × (new ≡ old)
      refused (bad o) a f = (a.1, e ∙ ap (λ (x : Said). written (said_words x) old) a.0)
      refused (got names next) a f =
          let r = a.refused (λ z. f (plain names a ∙ z)) in
          (r.1, e ∙ no_words s old r.0)

  pub print-long : (room old : List ℕ) → out_words ≤ length old → (p : Result ℕ PrintError) (room' new : List ℕ) → Prints file k root room (said_printed p) room'
      → new ≡ written (said_words (said_printed p)) old → PrintDone file k root room old (returned_of (said_printed p)) room' new
  print-long room old h p room' new a e =
      record {
        number = number room old h (said_printed p) room' new e (whole_names file) a;
        refused = refused room old h (said_printed p) room' new e (whole_names file) a;
        passed = λ _. (p, a, e);
      }
