-- The whole file: the rule passes exactly the good files, and hands out their parts.
-- Assumes nothing.
use mathlib.Core.Path.{◌≡◌, subst}
use mathlib.Core.Bool.{Bool}
use mathlib.Core.List.{List, [], ◌++◌}
use Prim.Native.Nat.{ℕ, ◌+◌, ◌≤◌, ◌<◌}
use native.Mathlib.Omega.{arith}
use lib.Dec.{lit<, lit≤}
use lib.ListN.{length}
use Rattle.sections.specs.Numbers.{file_propositions, file_sessions}
use Rattle.file.specs.Format.{Parts, FileSession, session_bytes, file_bytes, Good}
use Rattle.reading.specs.Reading.{one, section, got}
use Rattle.names.specs.Names.{name_bytes, names_up_to}
use Rattle.rules.specs.Lists.{Each}
use Rattle.file.specs.Offence.{session, code, is_unary, is_binary, all_sessions, all_codes, Settings, settings, parts, whole_file}
use Rattle.reading.proofs.Spans.{Spans, both, first, second}
use Rattle.sequence.specs.Operators.{Unary, Binary, unary_code, binary_code, not, weak_next, strong_next, finally, globally, or, and, until, release, implies, equiv}
use Rattle.reading.proofs.Readers.{got-value, got-next, in-turn, Section, section-sound, section-complete}
use Rattle.reading.proofs.Ends.{each_map, end-sound, end-complete, whole_run, run-whole}
use Rattle.names.proofs.NameLaws.{names-sound, names-complete}
use Rattle.file.proofs.Numbers.{Bytes}
use Rattle.file.proofs.SessionLaws.{Fit, sessions-sound, sessions-complete}
use Rattle.sections.proofs.CodeLaws.{unary-at, binary-at, New, new-sound, new-complete}
use Rattle.file.proofs.CodeLaws.{unary_good, good-unary, binary-good, good-binary, settings_bytes, settings-sound, settings-complete}
use Rattle.session.proofs.Few.{few}

-- the codes of a group follow one another, so it has no more of them than operators
unary-most : (op : Unary) → unary_code op < 5
unary-most not = lit< tt
unary-most weak_next = lit< tt
unary-most strong_next = lit< tt
unary-most finally = lit< tt
unary-most globally = lit< tt

binary-most : (op : Binary) → (5 ≤ binary_code op) × (binary_code op < 11)
binary-most or = (lit≤ tt, lit< tt)
binary-most and = (lit≤ tt, lit< tt)
binary-most until = (lit≤ tt, lit< tt)
binary-most release = (lit≤ tt, lit< tt)
binary-most implies = (lit≤ tt, lit< tt)
binary-most equiv = (lit≤ tt, lit< tt)

pub few-unary : (l : List ℕ) → Each (New is_unary) [] l → length l ≤ 5
few-unary l e =
    few 0 5 (New is_unary) (λ b c n. omega arith) (λ b c n. let u = unary-at c n.0 in omega (arith, unary-most u.0, u.1)) (λ b c n. n.1) l e

pub few-binary : (l : List ℕ) → Each (New is_binary) [] l → length l ≤ 6
few-binary l e =
    few 5 6 (New is_binary)
    (λ b c n. let u = binary-at c n.0 in omega (arith, (binary-most u.0).0, u.1))
    (λ b c n. let u = binary-at c n.0 in omega (arith, (binary-most u.0).1, u.1)) (λ b c n. n.1) l e

module _ (file : List ℕ) where
  -- ---- the sections

  abbrev pub Sessions : ℕ → ℕ → List FileSession → ℕ → Type 0
  Sessions m at all next = Section (λ _. session m) (Fit file m) session_bytes file 1 file_sessions at all next

  pub all_sound : Bytes file → (m at : ℕ) {all : List FileSession} {next : ℕ} → all_sessions m file at ≡ got all next → Sessions m at all next
  all_sound bs m at e = section-sound (λ _. session m) (Fit file m) session_bytes file (sessions-sound file bs m) 1 file_sessions at e

  pub all-complete : (m at : ℕ) (all : List FileSession) {next : ℕ} → Sessions m at all next → all_sessions m file at ≡ got all next
  all-complete m at all w = section-complete (λ _. session m) (Fit file m) session_bytes file (sessions-complete file m) 1 file_sessions at all w

  abbrev pub Codes : (ℕ → Bool) → ℕ → List ℕ → ℕ → Type 0
  Codes group at all next = Section (code group) (New group) one file 0 255 at all next

  pub codes-sound : (group : ℕ → Bool) (at : ℕ) {all : List ℕ} {next : ℕ} → all_codes group file at ≡ got all next → Codes group at all next
  codes-sound group at e = section-sound (code group) (New group) one file (new-sound group file) 0 255 at e

  pub codes-complete : (group : ℕ → Bool) (at : ℕ) (all : List ℕ) {next : ℕ} → Codes group at all next → all_codes group file at ≡ got all next
  codes-complete group at all w = section-complete (code group) (New group) one file (new-complete group file) 0 255 at all w

  -- ---- the parts

  pub parts-sound : Bytes file → (at : ℕ) (p : Parts) (next : ℕ) → parts file at ≡ got p next → Good p × Spans file at (file_bytes p) next
  unfolding parts
  parts-sound bs at p next e =
      let t = in-turn (names_up_to file_propositions file at) _ e in
      let n = names-sound file file_propositions at t.2 in
      let u = in-turn (all_sessions (length t.0) file t.1) _ t.3 in
      let s = all_sound bs (length t.0) t.1 u.2 in
      let v = in-turn (all_codes is_unary file u.1) _ u.3 in
      let c = codes-sound is_unary u.1 v.2 in
      let w = in-turn (all_codes is_binary file v.1) _ v.3 in
      let d = codes-sound is_binary v.1 w.2 in
      let x = in-turn (settings file w.1) _ w.3 in
      let f = settings-sound file w.1 x.0 x.1 x.2 in
      let q : Parts = record { names = t.0; sessions = u.0; unary = v.0; binary = w.0; constants = x.0.constants; bound = x.0.bound } in
      let is : q ≡ p = got-value x.3 in
      let m : x.1 ≡ next = got-next x.3 in
      let good : Good q =
      record {
        some_names = n.some;
        few_names = n.few;
        names = n.fits;
        some_sessions = s.some;
        few_sessions = s.few;
        sessions = s.fits;
        unary = each_map unary_good v.0 [] c.fits;
        binary = each_map binary-good w.0 [] d.fits;
        constants = f.0.constants;
        some_bound = f.0.some;
        low_bound = f.0.low;
      } in
      let a = section name_bytes t.0 in
      let b = section session_bytes u.0 in
      let g = section one v.0 in
      let h = section one w.0 in
      let k = settings_bytes x.0 in
      let spans = both file a (b ++ (g ++ (h ++ k))) n.spans (both file b (g ++ (h ++ k)) s.spans (both file g (h ++ k) c.spans (both file h k d.spans f.1))) in
      (subst Good is good, subst (λ (y : Parts). Spans file at (file_bytes y) next) is (subst (λ (y : ℕ). Spans file at (file_bytes q) y) m spans))

  pub parts-complete : (at : ℕ) (p : Parts) (next : ℕ) → Good p → Spans file at (file_bytes p) next → parts file at ≡ got p next
  unfolding parts
  parts-complete at p next w r =
      let a = section name_bytes p.names in
      let b = section session_bytes p.sessions in
      let g = section one p.unary in
      let h = section one p.binary in
      let s : Settings = record { constants = p.constants; bound = p.bound } in
      let k = settings_bytes s in
      let us = each_map good-unary p.unary [] w.unary in
      let bs = each_map good-binary p.binary [] w.binary in
      let r1 = second file a (b ++ (g ++ (h ++ k))) r in
      let r2 = second file b (g ++ (h ++ k)) r1 in
      let r3 = second file g (h ++ k) r2 in
      let r4 = second file h k r3 in
      rw (
        names-complete file file_propositions at p.names (record { some = w.some_names; few = w.few_names; fits = w.names; spans = first file a (b ++ (g ++ (h ++ k))) r }),
        all-complete (length p.names) (at + length a) p.sessions (record { some = w.some_sessions; few = w.few_sessions; fits = w.sessions; spans = first file b (g ++ (h ++ k)) r1 }),
        codes-complete is_unary (at + length a + length b) p.unary (record { some = omega arith; few = omega (arith, few-unary p.unary us); fits = us; spans = first file g (h ++ k) r2 }),
        codes-complete is_binary (at + length a + length b + length g) p.binary (record { some = omega arith; few = omega (arith, few-binary p.binary bs); fits = bs; spans = first file h k r3 }),
        settings-complete file (at + length a + length b + length g + length h) s next (record { constants = w.constants; some = w.some_bound; low = w.low_bound }) r4,
      )

  -- ---- the theorems

  -- a file that passes is the bytes of the parts that it is read as, and these are good
  pub passed-is-good : Bytes file → (p : Parts) (next : ℕ) → whole_file file ≡ got p next → Good p × (file_bytes p ≡ file)
  passed-is-good bs p next e =
      let t = end-sound file (parts file 0) e in
      let r = parts-sound bs 0 p next t.0 in
      (r.0, run-whole file (file_bytes p) (subst (λ (n : ℕ). Spans file 0 (file_bytes p) n) t.1 r.1))

  -- and the bytes of good parts pass, read as these parts
  pub good-passes : (p : Parts) → Good p → file_bytes p ≡ file → whole_file file ≡ got p (length file)
  good-passes p g e = end-complete file (parts file 0) p (parts-complete 0 p (length file) g (whole_run file (file_bytes p) e))
