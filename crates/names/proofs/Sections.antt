-- One name, and a whole section, step by step as the code takes them.
-- Assumes nothing.
use mathlib.Core.Path.{◌≡◌, sym, ap, ◌∙◌}
use mathlib.Core.Bool.{Bool, true, false}
use mathlib.Core.List.{List, []}
use Prim.Native.Nat.{ℕ, ◌+◌, ◌≤◌}
use borrow.Author.Tests.{eq-eqb, ne_eqb}
use lib.ListN.{length, take, drop}
use Rattle.std.proofs.Common.{Ok, Err}
use Rattle.reading.specs.declared.Read.{Read}
use Rattle.reading.specs.declared.Broken.{Broken}
use Rattle.names.specs.Names.{name_length, letter, name, is_taken, not_taken, names_up_to}
use Rattle.rules.specs.Limits.{most_propositions}
use Rattle.reading.specs.Reading.{got, each_item, byte, within, at_end, step_of}
use Rattle.names.specs.Judged.{said_names, names_said}
use Rattle.reading.proofs.Steps.{step-read, step-broken, byte-read}
use Rattle.names.proofs.NameLaws.{name-cut, name-odd, name-whole, name-room}

module _ (file : List ℕ) where
  -- ---- one name

  module _ (before : List (List ℕ)) (at : ℕ) where
    pub name-no-length : {o : Broken} → Err o ≡ step_of (λ b. b) (byte (within 1 name_length) file at) → Err o ≡ step_of length (name before file at)
    name-no-length e = ap (step_of length) (sym (name-cut file before at (step-broken (λ b. b) (byte (within 1 name_length) file at) e)))

    module _ {n : Read} (e : Ok n ≡ step_of (λ b. b) (byte (within 1 name_length) file at)) where
      long : byte (within 1 name_length) file at ≡ got n.value n.next
      long = byte-read (byte (within 1 name_length) file at) e

      pub name-bad-letter : {o : Broken} → Err o ≡ step_of length (each_item letter n.value [] file n.next) → Err o ≡ step_of length (name before file at)
      name-bad-letter d = ap (step_of length) (sym (name-odd file before at long (step-broken length (each_item letter n.value [] file n.next) d)))

      module _ {s : Read} (d : Ok s ≡ step_of length (each_item letter n.value [] file n.next)) where
        read : (letters : List ℕ) × (each_item letter n.value [] file n.next ≡ got letters s.next) × (length letters ≡ s.value)
        read = step-read length (each_item letter n.value [] file n.next) d

        pub name-fits : n.next + n.value ≤ length file
        name-fits = name-room file at long read.1

        whole : {b : Bool} → is_taken before (take n.value (drop n.next file)) ≡ b → name before file at ≡ not_taken b at read.0 s.next
        whole t = name-whole file before at long read.1 ∙ ap (λ (b : Bool). not_taken b at read.0 s.next) t

        pub name-twice : is_taken before (take n.value (drop n.next file)) ≡ true → Err (record { 0 = at }) ≡ step_of length (name before file at)
        name-twice t = ap (step_of length) (sym (whole t))

        pub name_new : is_taken before (take n.value (drop n.next file)) ≡ false → Ok s ≡ step_of length (name before file at)
        name_new t = ap (λ (k : ℕ). Ok (record { value = k; next = s.next })) (sym read.2) ∙ ap (step_of length) (sym (whole t))

  -- ---- a names section with nothing after it

  pub section-bad : {o : Broken} → Err o ≡ step_of length (names_up_to most_propositions file 0) → said_names (Err o) ≡ names_said file
  unfolding at_end
  section-bad e = rw (step-broken length (names_up_to most_propositions file 0) e)

  module _ {s : Read} (e : Ok s ≡ step_of length (names_up_to most_propositions file 0)) where
    pub section-extra : (s.next ≡ length file → ⊥) → said_names (Err (record { 0 = s.next })) ≡ names_said file
    unfolding at_end
    section-extra n = rw ((step-read length (names_up_to most_propositions file 0) e).1, ne_eqb s.next (length file) n)

    pub section-whole : s.next ≡ length file → said_names (Ok s.value) ≡ names_said file
    unfolding at_end
    section-whole n =
        let t = step-read length (names_up_to most_propositions file 0) e in
        rw (t.1, eq-eqb s.next (length file) n, t.2)
