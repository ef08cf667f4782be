-- "the first extra byte, or the file's length if it ends early": every good file cut short anywhere is refused at the length that is left, and every
-- good file with more after it at its own length. S1 cut to its first 12 bytes, `refused 8 at 12`, is one case.
-- Assumes nothing.
use mathlib.Core.Path.{◌≡◌, refl, sym, ap, ◌∙◌}
use mathlib.Core.Bool.{Bool, true, false, cond}
use mathlib.Core.List.{List, [], ◌∷◌, ◌++◌}
use Prim.Native.Nat.{ℕ, zero, suc, ◌+◌, ◌-◌, ◌^◌, ◌≤◌, ◌<◌}
use native.Mathlib.Decide.{dec_le}
use native.Mathlib.Nat.{lt_of_not-le}
use native.Mathlib.Omega.{arith}
use borrow.Author.Tests.{lt-ltb, le-ltb, le-leb, lt-leb, ne_eqb}
use lib.Dec.{ltb, leb}
use lib.ListN.{length, get_or, take, drop, length-take, length-append}
use lib.Seq.{take-nil, take-take, get_or-take, drop-append_seam}
use Rattle.words.specs.Word.{width}
use Rattle.sections.specs.Numbers.{file_sessions, file_propositions}
use Rattle.rules.specs.Limits.{most_size}
use Rattle.names.specs.Names.{name_length, letter, name, is_taken, not_taken, names_up_to}
use Rattle.file.specs.Format.{FileSession, Parts, file_bytes}
use Rattle.reading.specs.Reading.{got, bad, Reader, and_then, each_item, byte, within, counted, at_end}
use Rattle.file.specs.Offence.{number, eight_bytes, session, all_sessions, is_unary, is_binary, code, all_codes, Settings, settings, parts}
use Rattle.file.specs.Promises.{CutShort, FirstExtra}
use Rattle.reading.proofs.Readers.{got-bad, got-next, in-turn, byte-sound}
use Rattle.reading.proofs.Steps.{byte_next}
use Rattle.reading.proofs.Spans.{Spans}
use Rattle.file.proofs.Whole.{parts-complete}
use Rattle.reading.proofs.Ends.{whole_run}

pub drop-take : (n k : ℕ) (l : List ℕ) → drop n (take k l) ≡ take (k - n) (drop n l)
drop-take zero k l = let z : k - 0 ≡ k = omega arith in rw z
drop-take (suc n) zero l = let z : zero - suc n ≡ zero = omega arith in rw z
drop-take (suc n) (suc k) [] = sym (take-nil (suc k - suc n))
drop-take (suc n) (suc k) (a ∷ l) = let z : suc k - suc n ≡ k - n = omega arith in rw z (drop-take n k l)

-- ---- what is left to read of a session, of the settings and of a file, from each item on

abbrev from-words : ℕ → ℕ → ℕ → Reader FileSession
from-words m mark n f b = and_then (each_item (λ _. eight_bytes n) m [] f b) (λ words next. got (record { mark = mark; length = n; words = words }) next)

abbrev from-length : ℕ → ℕ → Reader FileSession
from-length m mark f a = and_then (byte (within 0 width) f a) (λ n b. from-words m mark n f b)

abbrev from-bound : ℕ → Reader Settings
from-bound constants f b = and_then (byte (within 1 most_size) f b) (λ bound next. got (record { constants = constants; bound = bound }) next)

abbrev from-mark : Reader Settings
from-mark f a = and_then (byte (within 0 1) f a) (λ constants b. from-bound constants f b)

abbrev all : List (List ℕ) → List FileSession → List ℕ → List ℕ → Settings → Parts
all ns ss us bs s = record { names = ns; sessions = ss; unary = us; binary = bs; constants = s.constants; bound = s.bound }

abbrev from-settings : List (List ℕ) → List FileSession → List ℕ → List ℕ → Reader Parts
from-settings ns ss us bs f d = and_then (settings f d) (λ s next. got (all ns ss us bs s) next)

abbrev from-binary : List (List ℕ) → List FileSession → List ℕ → Reader Parts
from-binary ns ss us f c = and_then (all_codes is_binary f c) (λ bs d. from-settings ns ss us bs f d)

abbrev from-unary : List (List ℕ) → List FileSession → Reader Parts
from-unary ns ss f b = and_then (all_codes is_unary f b) (λ us c. from-binary ns ss us f c)

abbrev from-sessions : List (List ℕ) → Reader Parts
from-sessions ns f a = and_then (all_sessions (length ns) f a) (λ ss b. from-unary ns ss f b)

module _ (file : List ℕ) (k : ℕ) (short : k ≤ length file) where
  abbrev front : List ℕ
  front = take k file

  front_length : length front ≡ k
  front_length = omega (arith, length-take k file)

  -- what was read of the whole file is read of its first k bytes, or the file ends early there
  abbrev Cut : {A : Type 0} → Reader A → Type 0
  Cut {A} read = (at : ℕ) (a : A) (next : ℕ) → read file at ≡ got a next → (at ≤ next) × (next ≤ k → read front at ≡ got a next) × (at ≤ k → k < next → read front at ≡ bad k)

  cut-done : {A : Type 0} (a : A) → Cut (λ _ at. got a at)
  cut-done a at b next e = let n : at ≡ next = got-next e in (omega arith, (λ h. e), λ h l. absurd (omega arith))

  cut-then : {A B : Type 0} (read : Reader A) (more : A → Reader B) → Cut read → ((a : A) → Cut (more a)) → Cut (λ f at. and_then (read f at) (λ a n. more a f n))
  cut-then read more r s at b next e =
      let t = in-turn (read file at) (λ a n. more a file n) e in
      let x = r at t.0 t.1 t.2 in
      let y = s t.0 t.1 b next t.3 in (
        omega (arith, x.0, y.0),
        (λ h. rw (x.1 (omega (arith, y.0))) (y.1 h)),
        λ h l. elim (dec_le t.1 k) [ yes i ↦ rw (x.1 i) (y.2 i l) | no i ↦ rw (x.2 h (lt_of_not-le i)) ],
      )

  cut-byte : (test : ℕ → Bool) → Cut (byte test)
  unfolding byte
  cut-byte test at b next e =
      let n = byte_next test file at e in
      let t = (byte-sound test file at e).0 in (
        omega (arith, n.1),
        (λ h.
            let lt : at < length front = omega (arith, n.1, front_length) in
            let v : get_or front at 0 ≡ b = get_or-take k file at 0 (omega (arith, n.1)) ∙ n.2 in
            rw (lt-ltb at (length front) lt, v, t) (ap (λ (x : ℕ). got b x) (sym n.1))),
        λ h l. let le : length front ≤ at = omega (arith, n.1, front_length) in rw (le-ltb at (length front) le) (ap bad front_length),
      )

  cut-each : {A : Type 0} (item : List A → Reader A) → ((before : List A) → Cut (item before)) → (n : ℕ) (before : List A) → Cut (each_item item n before)
  unfolding each_item
  cut-each item c zero before = cut-done before
  cut-each item c (suc n) before = cut-then (item before) (λ a. each_item item n (before ++ (a ∷ []))) (c before) (λ a. cut-each item c n (before ++ (a ∷ [])))

  cut-counted : {A : Type 0} (lo hi : ℕ) (item : List A → Reader A) → ((before : List A) → Cut (item before)) → Cut (counted lo hi item)
  cut-counted lo hi item c = cut-then (byte (within lo hi)) (λ n. each_item item n []) (cut-byte (within lo hi)) (λ n. cut-each item c n [])

  cut-name : (before : List (List ℕ)) → Cut (name before)
  unfolding name
  cut-name before at a next e =
      let t = in-turn (counted 1 name_length letter file at) (λ letters n. not_taken (is_taken before letters) at letters n) e in
      let x = cut-counted 1 name_length letter (λ b. cut-byte _) at t.0 t.1 t.2 in
      let n : t.1 ≡ next = same t.0 t.1 (is_taken before t.0) t.3 in
      (omega (arith, x.0), (λ h. rw (x.1 (omega arith)) t.3), λ h l. rw (x.2 h (omega arith)))
    where
      same : (letters : List ℕ) (n : ℕ) (b : Bool) → not_taken b at letters n ≡ got a next → n ≡ next
      same letters n true q = absurd (got-bad (sym q))
      same letters n false q = got-next q

  cut_word : (n : ℕ) → Cut (eight_bytes n)
  unfolding eight_bytes
  cut_word n at w next e = go (leb (at + 8) (length file)) (ltb (number (take 8 (drop at file))) (2 ^ n)) refl refl e
    where
      go : (p q : Bool) → leb (at + 8) (length file) ≡ p → ltb (number (take 8 (drop at file))) (2 ^ n) ≡ q
          → cond p (cond q (got (number (take 8 (drop at file))) (at + 8)) (bad at)) (bad (length file)) ≡ got w next
          → (at ≤ next)
          × (next ≤ k → cond (leb (at + 8) (length front)) (cond (ltb (number (take 8 (drop at front))) (2 ^ n)) (got (number (take 8 (drop at front))) (at + 8)) (bad at))
          (bad (length front)) ≡ got w next)
          × (at ≤ k → k < next → cond (leb (at + 8) (length front)) (cond (ltb (number (take 8 (drop at front))) (2 ^ n)) (got (number (take 8 (drop at front))) (at + 8)) (bad at))
          (bad (length front)) ≡ bad k)
      go true true h t g =
          let m : at + 8 ≡ next = got-next g in (
            omega arith,
            (λ l.
                let r : at + 8 ≤ length front = omega (arith, front_length) in
                let s : take 8 (drop at front) ≡ take 8 (drop at file) = ap (take 8) (drop-take at k file) ∙ take-take 8 (k - at) (drop at file) (omega arith) in
                rw (le-leb (at + 8) (length front) r, s, t) g),
            λ l i. let r : length front < at + 8 = omega (arith, front_length) in rw (lt-leb (at + 8) (length front) r) (ap bad front_length),
          )
      go true false h t g = absurd (got-bad (sym g))
      go false q h t g = absurd (got-bad (sym g))

  cut-session : (m : ℕ) → Cut (session m)
  unfolding session
  cut-session m =
      cut-then (byte (within 0 1)) (from-length m) (cut-byte (within 0 1)) λ mark.
      cut-then (byte (within 0 width)) (from-words m mark) (cut-byte (within 0 width)) λ n.
      cut-then (each_item (λ _. eight_bytes n) m []) (λ words _ next. got (record { mark = mark; length = n; words = words }) next) (cut-each (λ _. eight_bytes n) (λ _. cut_word n) m []) λ words.
      cut-done (record { mark = mark; length = n; words = words })

  cut-settings : Cut settings
  unfolding settings
  cut-settings =
      cut-then (byte (within 2 2)) (λ _. from-mark) (cut-byte (within 2 2)) λ _.
      cut-then (byte (within 0 1)) from-bound (cut-byte (within 0 1)) λ constants.
      cut-then (byte (within 1 most_size)) (λ b _ next. got (record { constants = constants; bound = b }) next) (cut-byte (within 1 most_size)) λ b.
      cut-done (record { constants = constants; bound = b })

  cut_parts : Cut parts
  unfolding parts
  cut_parts =
      cut-then (names_up_to file_propositions) from-sessions (cut-counted 1 file_propositions name cut-name) λ ns.
      cut-then (all_sessions (length ns)) (from-unary ns) (cut-counted 1 file_sessions (λ _. session (length ns)) (λ _. cut-session (length ns))) λ ss.
      cut-then (all_codes is_unary) (from-binary ns ss) (cut-counted 0 255 (code is_unary) (λ b. cut-byte _)) λ us.
      cut-then (all_codes is_binary) (from-settings ns ss us) (cut-counted 0 255 (code is_binary) (λ b. cut-byte _)) λ bs.
      cut-then settings (λ s _ next. got (all ns ss us bs s) next) cut-settings λ s.
      cut-done (all ns ss us bs s)

pub cut_short : CutShort
unfolding at_end
cut_short p g k h =
    let file = file_bytes p in
    let whole = parts-complete file 0 p (length file) g (whole_run file file refl) in
    let c = cut_parts file k (omega arith) 0 p (length file) whole in
    rw (c.2 (omega arith) h)

pub first-extra : FirstExtra
unfolding at_end
first-extra p g b more =
    let run = file_bytes p in
    let file = run ++ (b ∷ more) in
    let z : length run ≡ 0 + length run = omega arith in
    let spans : Spans file 0 run (length run) = record { is = ap (λ (l : List ℕ). run ++ l) (sym (drop-append_seam run (b ∷ more))); end = z } in
    let n : length run ≡ length file → ⊥ = λ e. omega (arith, length-append run (b ∷ more)) in
    rw (parts-complete file 0 p (length run) g spans, ne_eqb (length run) (length file) n)
