-- The settings and the whole file, step by step as the code takes them.
-- Assumes nothing.
use mathlib.Core.Path.{◌≡◌, refl, sym, ap, ◌∙◌}
use mathlib.Core.Bool.{Bool, true, false, cond}
use mathlib.Core.List.{List}
use Prim.Native.Nat.{ℕ, ◌+◌, ◌<◌}
use native.Mathlib.Omega.{arith}
use borrow.Author.Tests.{eq-eqb, ne_eqb}
use lib.Dec.{eqb}
use lib.ListN.{length, get_or}
use Rattle.std.proofs.Common.{Result, Ok, Err}
use Rattle.reading.specs.declared.Read.{Read}
use Rattle.reading.specs.declared.Broken.{Broken}
use Rattle.file.specs.declared.Settings.{Settings as Tail}
use Rattle.file.specs.declared.Parts.{Parts as Numbers}
use Rattle.sections.specs.Numbers.{file_propositions}
use Rattle.rules.specs.Limits.{most_size}
use Rattle.names.specs.Names.{name_bytes, names_up_to}
use Rattle.file.specs.Format.{FileSession, Parts}
use Rattle.reading.specs.Reading.{section, Got, got, bad, and_then, byte, within, at_end, step_of}
use Rattle.file.specs.Offence.{all_sessions, is_unary, is_binary, all_codes, Settings, settings, parts, whole_file}
use Rattle.file.specs.Inner.{tail_of, tail_at, judged, judged_of}
use Rattle.reading.proofs.Steps.{step-read, step-broken, byte-read, byte_next}
use Rattle.names.proofs.NameLaws.{names-sound}

module _ (file : List ℕ) where
  -- ---- settings, with nothing after them

  module _ (at : ℕ) where
    pub tail-no-count : {o : Broken} → Err o ≡ step_of (λ b. b) (byte (within 2 2) file at) → Err o ≡ tail_of (tail_at file at)
    unfolding settings at_end
    tail-no-count e = rw (step-broken (λ b. b) (byte (within 2 2) file at) e)

    module _ {r : Read} (e : Ok r ≡ step_of (λ b. b) (byte (within 2 2) file at)) where
      pub tail-no-mark : {o : Broken} → Err o ≡ step_of (λ b. b) (byte (within 0 1) file r.next) → Err o ≡ tail_of (tail_at file at)
      unfolding settings at_end
      tail-no-mark d = rw (byte-read (byte (within 2 2) file at) e, step-broken (λ b. b) (byte (within 0 1) file r.next) d)

      module _ {s : Read} (d : Ok s ≡ step_of (λ b. b) (byte (within 0 1) file r.next)) where
        pub tail-no-bound : {o : Broken} → Err o ≡ step_of (λ b. b) (byte (within 1 most_size) file s.next) → Err o ≡ tail_of (tail_at file at)
        unfolding settings at_end
        tail-no-bound h =
            rw (byte-read (byte (within 2 2) file at) e, byte-read (byte (within 0 1) file r.next) d, step-broken (λ b. b) (byte (within 1 most_size) file s.next) h)

        module _ {t : Read} (h : Ok t ≡ step_of (λ b. b) (byte (within 1 most_size) file s.next)) where
          mark-there : (r.next < length file) × (s.next ≡ r.next + 1) × (get_or file r.next 0 ≡ s.value)
          mark-there = byte_next (within 0 1) file r.next (byte-read (byte (within 0 1) file r.next) d)

          bound-there : (s.next < length file) × (t.next ≡ s.next + 1) × (get_or file s.next 0 ≡ t.value)
          bound-there = byte_next (within 1 most_size) file s.next (byte-read (byte (within 1 most_size) file s.next) h)

          pub tail-mark-in : r.next < length file
          tail-mark-in = mark-there.0

          pub tail-bound-in : s.next < length file
          tail-bound-in = bound-there.0

          pub tail-extra : (t.next ≡ length file → ⊥) → Err (record { 0 = t.next }) ≡ tail_of (tail_at file at)
          unfolding settings at_end
          tail-extra n =
              rw (
                byte-read (byte (within 2 2) file at) e,
                byte-read (byte (within 0 1) file r.next) d,
                byte-read (byte (within 1 most_size) file s.next) h,
                ne_eqb t.next (length file) n,
              )

          pub tail-whole : t.next ≡ length file → Ok (record { constants = get_or file r.next 0; bound = get_or file s.next 0 }) ≡ tail_of (tail_at file at)
          unfolding settings at_end
          tail-whole n =
              rw (
                byte-read (byte (within 2 2) file at) e,
                byte-read (byte (within 0 1) file r.next) d,
                byte-read (byte (within 1 most_size) file s.next) h,
                eq-eqb t.next (length file) n,
                mark-there.2,
                bound-there.2,
              )

  -- ---- the whole file

  -- the end comes after what is made of the last part
  end-map : {A B : Type 0} (h : A → B) (g : Got A) → at_end (and_then g (λ a n. got (h a) n)) file ≡ and_then (at_end g file) (λ a n. got (h a) n)
  unfolding at_end
  end-map h (bad o) = refl
  end-map h (got a n) = go (eqb n (length file))
    where
      go : (b : Bool) → cond b (got (h a) n) (bad n) ≡ and_then (cond b (got a n) (bad n)) (λ a n. got (h a) n)
      go true = refl
      go false = refl

  pub judge-names : {o : Broken} → Err o ≡ step_of length (names_up_to file_propositions file 0) → Err o ≡ judged_of file
  unfolding parts at_end
  judge-names e = rw (step-broken length (names_up_to file_propositions file 0) e)

  module _ {m : Read} (e : Ok m ≡ step_of length (names_up_to file_propositions file 0)) where
    names-read : (ns : List (List ℕ)) × (names_up_to file_propositions file 0 ≡ got ns m.next) × (length ns ≡ m.value)
    names-read = step-read length (names_up_to file_propositions file 0) e

    ns : List (List ℕ)
    ns = names-read.0

    names-end : length (section name_bytes ns) ≡ m.next
    unfolding ns
    names-end = omega (arith, (names-sound file file_propositions 0 names-read.1).spans.end)

    sessions-step : {s : Result Read Broken} → s ≡ step_of length (all_sessions m.value file m.next) → s ≡ step_of length (all_sessions (length ns) file m.next)
    unfolding ns
    sessions-step d = d ∙ ap (λ (k : ℕ). step_of length (all_sessions k file m.next)) (sym names-read.2)

    pub judge-sessions : {o : Broken} → Err o ≡ step_of length (all_sessions m.value file m.next) → Err o ≡ judged_of file
    unfolding parts at_end ns
    judge-sessions d = rw (names-read.1, step-broken length (all_sessions (length ns) file m.next) (sessions-step d))

    module _ {r : Read} (d : Ok r ≡ step_of length (all_sessions m.value file m.next)) where
      sessions-read : (ss : List FileSession) × (all_sessions (length ns) file m.next ≡ got ss r.next) × (length ss ≡ r.value)
      sessions-read = step-read length (all_sessions (length ns) file m.next) (sessions-step d)

      pub judge-unary : {o : Broken} → Err o ≡ step_of length (all_codes is_unary file r.next) → Err o ≡ judged_of file
      unfolding parts at_end ns
      judge-unary f = rw (names-read.1, sessions-read.1, step-broken length (all_codes is_unary file r.next) f)

      module _ {u : Read} (f : Ok u ≡ step_of length (all_codes is_unary file r.next)) where
        unary_read : (us : List ℕ) × (all_codes is_unary file r.next ≡ got us u.next) × (length us ≡ u.value)
        unary_read = step-read length (all_codes is_unary file r.next) f

        pub judge-binary : {o : Broken} → Err o ≡ step_of length (all_codes is_binary file u.next) → Err o ≡ judged_of file
        unfolding parts at_end ns
        judge-binary h = rw (names-read.1, sessions-read.1, unary_read.1, step-broken length (all_codes is_binary file u.next) h)

        module _ {v : Read} (h : Ok v ≡ step_of length (all_codes is_binary file u.next)) where
          binary-read : (bs : List ℕ) × (all_codes is_binary file u.next ≡ got bs v.next) × (length bs ≡ v.value)
          binary-read = step-read length (all_codes is_binary file u.next) h

          whole : Settings → Parts
          whole z = record { names = ns; sessions = sessions-read.0; unary = unary_read.0; binary = binary-read.0; constants = z.constants; bound = z.bound }

          file-is : whole_file file ≡ and_then (tail_at file v.next) (λ z n. got (whole z) n)
          unfolding parts whole ns
          file-is = rw (names-read.1, sessions-read.1, unary_read.1, binary-read.1) (end-map whole (settings file v.next))

          -- the numbers of the parts, with these settings
          answer : Result Tail Broken → Result Numbers Broken
          answer (Ok t) =
              Ok (
              record {
                sessions = r.value;
                propositions = m.value;
                names = m.next;
                unary = u.value;
                binary = v.value;
                constants = t.constants;
                bound = t.bound;
              })
          answer (Err o) = Err o

          answer-is : (z : Got Settings) → answer (tail_of z) ≡ judged (and_then z (λ z n. got (whole z) n))
          unfolding answer whole ns
          answer-is (bad o) = refl
          answer-is (got z next) = rw (sessions-read.2, names-read.2, names-end, unary_read.2, binary-read.2)

          found : {x : Result Tail Broken} → x ≡ tail_of (tail_at file v.next) → answer x ≡ judged_of file
          found y = ap answer y ∙ answer-is (tail_at file v.next) ∙ ap judged (sym file-is)

          pub judge-tail : {o : Broken} → Err o ≡ tail_of (tail_at file v.next) → Err o ≡ judged_of file
          unfolding answer
          judge-tail y = found y

          pub judge-whole : {t : Tail} → Ok t ≡ tail_of (tail_at file v.next)
              → Ok (
              record {
                sessions = r.value;
                propositions = m.value;
                names = m.next;
                unary = u.value;
                binary = v.value;
                constants = t.constants;
                bound = t.bound;
              }) ≡ judged_of file
          unfolding answer
          judge-whole y = found y
