-- Words and sessions: what the rule reads is good, its bytes stand there, and a good one is read.
-- Assumes nothing.
use mathlib.Core.Path.{◌≡◌, refl, sym, ap, ◌∙◌, subst}
use mathlib.Core.Bool.{Bool, true, false, cond}
use mathlib.Core.List.{List, [], ◌++◌, flat_map}
use Prim.Native.Nat.{ℕ, ◌+◌, ◌^◌, ◌≤◌}
use native.Mathlib.Decide.{dec_lt}
use native.Mathlib.Nat.{lt_of_lt_of_le, lt_of_not-le}
use native.Mathlib.Omega.{arith}
use borrow.Author.Tests.{leb-true, le-leb, ltb-true, lt-ltb}
use lib.Dec.{leb, ltb}
use lib.Pow.{pow_mono}
use lib.ListN.{length, take, drop, length-append, length-take, length-drop, take-append-drop, get_or-eq_default}
use lib.Seq.{drop-drop, get_or-take, get_or-drop}
use Rattle.words.specs.Word.{width, Wf}
use Rattle.words.proofs.At.{lt-wf, wf-lt}
use Rattle.file.specs.Format.{FileSession, word_bytes, session_bytes, low_first, GoodSession}
use Rattle.reading.specs.Reading.{one, got, bad, each_item, byte, within}
use Rattle.file.specs.Offence.{number, eight_bytes, session}
use Rattle.reading.proofs.Spans.{Spans, both, first, second, taken}
use Rattle.reading.proofs.Lists.{within-high, within-is}
use Rattle.reading.proofs.Readers.{got-bad, got-value, got-next, in-turn, byte-sound, byte-complete, Sound, Complete, row-sound, row-complete}
use Rattle.file.proofs.Numbers.{Bytes, length-low, number-low, low-number}

bytes_take : (n : ℕ) (l : List ℕ) → Bytes l → Bytes (take n l)
bytes_take n l h i =
    elim (dec_lt i n) [
      | yes b ↦ rw (get_or-take n l i 0 b) (h i)
      | no b ↦ rw (get_or-eq_default (take n l) 0 {n = i} (omega (arith, lt_of_not-le b, length-take n l))) (omega arith)
    ]

bytes_drop : (n : ℕ) (l : List ℕ) → Bytes l → Bytes (drop n l)
bytes_drop n l h i = rw (get_or-drop n l i 0) (h (n + i))

abbrev eight : List ℕ → ℕ → List ℕ
eight file at = take 8 (drop at file)

module _ (file : List ℕ) where
  pub word_sound : Bytes file → (n : ℕ) → n ≤ width → (at w next : ℕ) → eight_bytes n file at ≡ got w next → Wf n w × Spans file at (word_bytes w) next
  unfolding eight_bytes
  word_sound bs n s at w next e = go (leb (at + 8) (length file)) (ltb (number (eight file at)) (2 ^ n)) refl refl e
    where
      go : (p q : Bool) → leb (at + 8) (length file) ≡ p → ltb (number (eight file at)) (2 ^ n) ≡ q
          → cond p (cond q (got (number (eight file at)) (at + 8)) (bad at)) (bad (length file)) ≡ got w next → Wf n w × Spans file at (word_bytes w) next
      go true true h t g =
          let run = eight file at in
          let v : number run ≡ w = got-value g in
          let m : at + 8 ≡ next = got-next g in
          let r : at + 8 ≤ length file = leb-true (at + 8) (length file) h in
          let k : length run ≡ 8 = omega (arith, length-take 8 (drop at file), length-drop at file) in
          let low : low_first 8 (number run) ≡ run = ap (λ (x : ℕ). low_first x (number run)) (sym k) ∙ low-number run (bytes_take 8 (drop at file) (bytes_drop at file bs)) in
          let is : drop at file ≡ low_first 8 (number run) ++ drop (at + 8) file =
          sym (take-append-drop 8 (drop at file)) ∙ ap (λ (l : List ℕ). run ++ l) (drop-drop 8 at file) ∙ ap (λ (l : List ℕ). l ++ drop (at + 8) file) (sym low) in
          let spans : Spans file at (word_bytes (number run)) (at + 8) = record { is = is; end = omega (arith, length-low 8 (number run)) } in
          (rw (← v) (lt-wf s (ltb-true (number run) (2 ^ n) t)), rw (← v, ← m) spans)
      go true false h t g = absurd (got-bad (sym g))
      go false q h t g = absurd (got-bad (sym g))

  pub word-complete : (n at w next : ℕ) → Wf n w → Spans file at (word_bytes w) next → eight_bytes n file at ≡ got w next
  unfolding eight_bytes
  word-complete n at w next f s =
      let k = length-low 8 w in
      let m : at + 8 ≡ next = omega (arith, s.end, k) in
      let r : at + 8 ≤ length file = omega (arith, length-drop at file, ap length s.is, length-append (word_bytes w) (drop next file), k) in
      let run : take 8 (drop at file) ≡ word_bytes w = ap (λ (x : ℕ). take x (drop at file)) (sym k) ∙ taken file (word_bytes w) s in
      let v : number (word_bytes w) ≡ w = number-low 8 w (lt_of_lt_of_le (wf-lt f) (pow_mono f.short)) in
      rw (le-leb (at + 8) (length file) r, run, v, lt-ltb w (2 ^ n) (wf-lt f)) (ap (λ (x : ℕ). got w x) m)

  abbrev pub Fits : ℕ → List ℕ → ℕ → Type 0
  Fits n before w = Wf n w

  pub words-sound : Bytes file → (n : ℕ) → n ≤ width → Sound (λ _. eight_bytes n) (Fits n) word_bytes file
  words-sound bs n s before at w next e = word_sound bs n s at w next e

  pub words-complete : (n : ℕ) → Complete (λ _. eight_bytes n) (Fits n) word_bytes file
  words-complete n before at w next f s = word-complete n at w next f s

  pub session-sound : Bytes file → (m at : ℕ) (s : FileSession) (next : ℕ) → session m file at ≡ got s next → GoodSession m s × Spans file at (session_bytes s) next
  unfolding session
  session-sound bs m at s next e =
      let t = in-turn (byte (within 0 1) file at) _ e in
      let mark = byte-sound (within 0 1) file at t.2 in
      let u = in-turn (byte (within 0 width) file t.1) _ t.3 in
      let length = byte-sound (within 0 width) file t.1 u.2 in
      let short = within-high 0 width u.0 length.0 in
      let v = in-turn (each_item (λ _. eight_bytes u.0) m [] file u.1) _ u.3 in
      let r = row-sound (λ _. eight_bytes u.0) (Fits u.0) word_bytes file (words-sound bs u.0 short) m [] u.1 v.2 in
      let w : v.0 ≡ r.new = r.is in
      let is : record { mark = t.0; length = u.0; words = v.0 } ≡ s = got-value v.3 in
      let n : v.1 ≡ next = got-next v.3 in
      let good : GoodSession m (record { mark = t.0; length = u.0; words = v.0 }) =
      record { mark = within-high 0 1 t.0 mark.0; short = short; count = rw w r.count; words = rw w r.fits } in
      let run : Spans file u.1 (flat_map word_bytes v.0) v.1 = rw w r.spans in
      let spans = both file (one t.0) (one u.0 ++ flat_map word_bytes v.0) mark.1 (both file (one u.0) (flat_map word_bytes v.0) length.1 run) in (
        subst (GoodSession m) is good,
        subst (λ (x : FileSession). Spans file at (session_bytes x) next) is (subst (λ (x : ℕ). Spans file at (session_bytes (record { mark = t.0; length = u.0; words = v.0 })) x) n spans),
      )

  pub session-complete : (m at : ℕ) (s : FileSession) (next : ℕ) → GoodSession m s → Spans file at (session_bytes s) next → session m file at ≡ got s next
  unfolding session
  session-complete m at s next g r =
      let ws = flat_map word_bytes s.words in
      let a = second file (one s.mark) (one s.length ++ ws) r in
      let b = second file (one s.length) ws a in
      rw (
        byte-complete (within 0 1) file at s.mark (within-is 0 1 s.mark (omega arith) g.mark) (first file (one s.mark) (one s.length ++ ws) r),
        byte-complete (within 0 width) file (at + 1) s.length (within-is 0 width s.length (omega arith) g.short) (first file (one s.length) ws a),
        ← g.count,
        row-complete (λ _. eight_bytes s.length) (Fits s.length) word_bytes file (words-complete s.length) s.words [] (at + 1 + 1) g.words b,
      )

  abbrev pub Fit : ℕ → List FileSession → FileSession → Type 0
  Fit m before s = GoodSession m s

  pub sessions-sound : Bytes file → (m : ℕ) → Sound (λ _. session m) (Fit m) session_bytes file
  sessions-sound bs m before at s next e = session-sound bs m at s next e

  pub sessions-complete : (m : ℕ) → Complete (λ _. session m) (Fit m) session_bytes file
  sessions-complete m before at s next g r = session-complete m at s next g r
