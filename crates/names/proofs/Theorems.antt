-- What a reader of document 01 will look for: the judge accepts exactly the sections of good names, and any two allowed results are equal.
-- Assumes nothing.
use mathlib.Core.Path.{◌≡◌, sym, ap, ◌∙◌}
use mathlib.Core.Logic.{◌↔◌}
use mathlib.Core.List.{List, [], ◌∷◌}
use Prim.Native.Nat.{ℕ}
use native.Mathlib.Omega.{arith}
use lib.ListN.{length}
use Rattle.rules.specs.Answers.{Said}
use Rattle.reading.specs.Reading.{section, got}
use Rattle.reading.proofs.Ends.{end-sound, end-complete, whole_run, run-whole}
use Rattle.std.proofs.Common.{Result, Ok, Err}
use Rattle.reading.specs.declared.Broken.{Broken}
use Rattle.names.specs.Names.{name_bytes, GoodList, names_up_to, whole_names}
use Rattle.rules.specs.Limits.{most_propositions}
use Rattle.names.specs.declared.lookup.Span.{Span}
use Rattle.names.specs.Lookup.{LettersAt}
use Rattle.names.specs.Judged.{said_names, names_said}
use Rattle.names.proofs.NameLaws.{names-sound, names-complete}

-- a byte string is a names section, with nothing after it, exactly where it is the bytes of good names
pub names-accepts : (file : List ℕ) (ns : List (List ℕ)) → (whole_names file ≡ got ns (length file)) ↔ (GoodList ns × (section name_bytes ns ≡ file))
names-accepts file ns = (
  (λ e.
      let t = end-sound file (names_up_to most_propositions file 0) e in
      let w = names-sound file most_propositions 0 t.0 in
      ((w.some, w.few, w.fits), run-whole file (section name_bytes ns) w.spans)),
  λ t.
      let g = t.0 in
      end-complete file (names_up_to most_propositions file 0) ns (names-complete file most_propositions 0 ns
      (record { some = g.0; few = g.1; fits = g.2; spans = whole_run file (section name_bytes ns) t.1 })),
)

names-one : (a b : Result ℕ Broken) → said_names a ≡ said_names b → a ≡ b
names-one (Ok k) (Ok j) e = let t : k ∷ [] ≡ j ∷ [] = ap (λ (s : Said). s.values) e in cc
names-one (Ok k) (Err o) e = let t : ◌≡◌ {A = ℕ} 0 8 = ap (λ (s : Said). s.number) e in absurd (omega arith)
names-one (Err o) (Ok k) e = let t : ◌≡◌ {A = ℕ} 8 0 = ap (λ (s : Said). s.number) e in absurd (omega arith)
names-one (Err o) (Err q) e =
    let t : o.0 ∷ [] ≡ q.0 ∷ [] = ap (λ (s : Said). s.values) e in
    let u : o.0 ≡ q.0 = cc in
    ap (λ (x : ℕ). Err (record { 0 = x })) u

-- the judge of a names section
pub names-unique : (file : List ℕ) (a b : Result ℕ Broken) → said_names a ≡ names_said file → said_names b ≡ names_said file → a ≡ b
names-unique file a b p q = names-one a b (p ∙ sym q)

-- a name's letters
pub letters-unique : (file : List ℕ) (p : ℕ) (s t : Span) → LettersAt file p s → LettersAt file p t → s ≡ t
letters-unique file p s t l m =
    let f : s.from ≡ t.from = l.from ∙ sym m.from in
    let e : s.to ≡ t.to = l.to ∙ sym m.to in
    ap (λ (x : ℕ). record { from = x; to = s.to }) f ∙ ap (λ (x : ℕ). record { from = t.from; to = x }) e
