-- Where the parts of a good file stand in it, and what the writing pass therefore writes.
-- Assumes nothing.
use mathlib.Core.Path.{◌≡◌, refl, sym, ap, ◌∙◌}
use mathlib.Core.List.{List, [], ◌∷◌, ◌++◌, map, flat_map, append_assoc}
use Prim.Native.Nat.{ℕ, ◌+◌, ◌*◌, ◌≤◌}
use native.Mathlib.Nat.{suc-mul, mul-suc, lt_of_lt_of_le}
use native.Mathlib.Omega.{arith}
use lib.Pow.{pow_mono}
use lib.ListN.{length, drop, length-append}
use lib.Seq.{sets, sets-eq, drop-drop, drop_at, take_at}
use Rattle.words.specs.Word.{Wf}
use Rattle.words.proofs.At.{wf-lt}
use Rattle.file.specs.Format.{FileSession, Parts, word_bytes, session_bytes, file_bytes, GoodSession, Good}
use Rattle.reading.specs.Reading.{one, section}
use Rattle.names.specs.Names.{name_bytes}
use Rattle.rules.specs.Lists.{Each}
use Rattle.file.specs.Offence.{number}
use Rattle.file.specs.Reading.{marks_of, lengths_of, words_of}
use Rattle.rules.specs.Answers.{over}
use Rattle.file.specs.Inner.{strided, words_at, session_words}
use Rattle.reading.proofs.Lists.{ones}
use Rattle.file.proofs.Numbers.{length-low, number-low}
use Rattle.reading.proofs.Spans.{Spans, second}
use Rattle.reading.proofs.Ends.{whole_run}

-- ---- words

length-words-bytes : (ws : List ℕ) → length (flat_map word_bytes ws) ≡ 8 * length ws
unfolding flat_map
length-words-bytes [] = refl
length-words-bytes (w ∷ ws) = omega (arith, length-append (word_bytes w) (flat_map word_bytes ws), length-low 8 w, length-words-bytes ws)

words-there : (n : ℕ) (ws before rest : List ℕ) → Each (λ _ w. Wf n w) before ws → words_at (length ws) (flat_map word_bytes ws ++ rest) ≡ ws
unfolding words_at flat_map Each
words-there n [] before rest e = refl
words-there n (w ∷ ws) before rest e =
    let tail = flat_map word_bytes ws ++ rest in
    let split : (word_bytes w ++ flat_map word_bytes ws) ++ rest ≡ word_bytes w ++ tail = append_assoc (word_bytes w) (flat_map word_bytes ws) rest in
    let v : number (word_bytes w) ≡ w = number-low 8 w (lt_of_lt_of_le (wf-lt e.0) (pow_mono e.0.short)) in
    rw (split, take_at (word_bytes w) tail 8 (length-low 8 w), drop_at (word_bytes w) tail 8 (length-low 8 w), v) (ap (λ (l : List ℕ). w ∷ l) (words-there n ws (before ++ (w ∷ [])) rest e.1))

-- ---- sessions

module _ (m : ℕ) where
  length-session : (s : FileSession) → GoodSession m s → length (session_bytes s) ≡ 2 + 8 * m
  length-session s g = omega (arith, length-words-bytes s.words, g.count)

  pub length-sessions : (ss before : List FileSession) → Each (λ _ s. GoodSession m s) before ss → length (flat_map session_bytes ss) ≡ length ss * (2 + 8 * m)
  unfolding flat_map Each
  length-sessions [] before e = omega arith
  length-sessions (s ∷ ss) before e =
      rw (suc-mul (length ss) (2 + 8 * m)) (omega (arith, length-append (session_bytes s) (flat_map session_bytes ss), length-session s e.0, length-sessions ss (before ++ (s ∷ [])) e.1))

  later : (s : FileSession) (ss : List FileSession) (rest : List ℕ) → GoodSession m s → drop (2 + 8 * m) (flat_map session_bytes (s ∷ ss) ++ rest) ≡ flat_map session_bytes ss ++ rest
  unfolding flat_map
  later s ss rest g = ap (drop (2 + 8 * m)) (append_assoc (session_bytes s) (flat_map session_bytes ss) rest)
      ∙ drop_at (session_bytes s) (flat_map session_bytes ss ++ rest) (2 + 8 * m) (length-session s g)

  pub marks-there : (ss before : List FileSession) (rest : List ℕ) → Each (λ _ s. GoodSession m s) before ss
      → strided (2 + 8 * m) (length ss) (flat_map session_bytes ss ++ rest) ≡ map (λ s. s.mark) ss
  unfolding strided flat_map Each
  marks-there [] before rest e = refl
  marks-there (s ∷ ss) before rest e = ap (λ (l : List ℕ). s.mark ∷ l) (ap (strided (2 + 8 * m) (length ss)) (later s ss rest e.0) ∙ marks-there ss (before ++ (s ∷ [])) rest e.1)

  pub lengths-there : (ss before : List FileSession) (rest : List ℕ) → Each (λ _ s. GoodSession m s) before ss
      → strided (2 + 8 * m) (length ss) (drop 1 (flat_map session_bytes ss ++ rest)) ≡ map (λ s. s.length) ss
  unfolding strided flat_map Each
  lengths-there [] before rest e = refl
  lengths-there (s ∷ ss) before rest e =
      let all = flat_map session_bytes (s ∷ ss) ++ rest in
      let n : 1 + (2 + 8 * m) ≡ (2 + 8 * m) + 1 = omega arith in
      let swap : drop (2 + 8 * m) (drop 1 all) ≡ drop 1 (drop (2 + 8 * m) all) = drop-drop (2 + 8 * m) 1 all ∙ ap (λ (n : ℕ). drop n all) n ∙ sym (drop-drop 1 (2 + 8 * m) all) in
      ap (λ (l : List ℕ). s.length ∷ l) (ap (strided (2 + 8 * m) (length ss)) (swap ∙ ap (drop 1) (later s ss rest e.0)) ∙ lengths-there ss (before ++ (s ∷ [])) rest e.1)

  pub session-words-there : (ss before : List FileSession) (rest : List ℕ) → Each (λ _ s. GoodSession m s) before ss
      → session_words m (length ss) (flat_map session_bytes ss ++ rest) ≡ flat_map (λ s. s.words) ss
  unfolding session_words flat_map Each
  session-words-there [] before rest e = refl
  session-words-there (s ∷ ss) before rest e =
      let g = e.0 in
      let ws : words_at m ((flat_map word_bytes s.words ++ flat_map session_bytes ss) ++ rest) ≡ s.words =
      ap (λ (l : List ℕ). words_at m l) (append_assoc (flat_map word_bytes s.words) (flat_map session_bytes ss) rest)
      ∙ ap (λ (n : ℕ). words_at n (flat_map word_bytes s.words ++ (flat_map session_bytes ss ++ rest))) (sym g.count)
      ∙ words-there s.length s.words [] (flat_map session_bytes ss ++ rest) g.words in
      let more : session_words m (length ss) (drop (2 + 8 * m) (flat_map session_bytes (s ∷ ss) ++ rest)) ≡ flat_map (λ s. s.words) ss =
      ap (session_words m (length ss)) (later s ss rest g) ∙ session-words-there ss (before ++ (s ∷ [])) rest e.1 in
      ap (λ (l : List ℕ). l ++ session_words m (length ss) (drop (2 + 8 * m) (flat_map session_bytes (s ∷ ss) ++ rest))) ws ∙ ap (λ (l : List ℕ). s.words ++ l) more

  pub length-all-words : (ss before : List FileSession) → Each (λ _ s. GoodSession m s) before ss → length (flat_map (λ s. s.words) ss) ≡ m * length ss
  unfolding flat_map Each
  length-all-words [] before e = omega arith
  length-all-words (s ∷ ss) before e =
      rw (mul-suc m (length ss)) (omega (arith, length-append s.words (flat_map (λ s. s.words) ss), e.0.count, length-all-words ss (before ++ (s ∷ [])) e.1))

-- ---- codes

pub codes-there : (cs rest : List ℕ) → strided 1 (length cs) (flat_map one cs ++ rest) ≡ cs
unfolding strided flat_map
codes-there [] rest = refl
codes-there (c ∷ cs) rest = ap (λ (l : List ℕ). c ∷ l) (codes-there cs rest)

-- what is stored at the front of a lent slice
pub filled : (new old : List ℕ) → length new ≤ length old → sets old 0 new ≡ over new old
filled new old h = let z : 0 + length new ≡ length new = omega arith in sets-eq new old 0 (omega arith) ∙ ap (λ (n : ℕ). new ++ drop n old) z

-- ---- the whole

pub record Layout (p : Parts) (file : List ℕ) : Type 0 where
  pub marks : strided (2 + 8 * length p.names) (length p.sessions) (drop (length (section name_bytes p.names) + 1) file) ≡ marks_of p
  pub lengths : strided (2 + 8 * length p.names) (length p.sessions) (drop (length (section name_bytes p.names) + 1 + 1) file) ≡ lengths_of p
  pub words : session_words (length p.names) (length p.sessions) (drop (length (section name_bytes p.names) + 1) file) ≡ words_of p
  pub unary : strided 1 (length p.unary) (drop (length (section name_bytes p.names) + 1 + length p.sessions * (2 + 8 * length p.names) + 1) file) ≡ p.unary
  pub binary : strided 1 (length p.binary) (drop (length (section name_bytes p.names) + 1 + length p.sessions * (2 + 8 * length p.names) + length p.unary + 2) file) ≡ p.binary
  pub room : length (section name_bytes p.names) + 1 + length p.sessions * (2 + 8 * length p.names) + length p.unary + 2 + length p.binary + 3 ≡ length file

module _ (p : Parts) (file : List ℕ) (g : Good p) (e : file_bytes p ≡ file) where
  abbrev m : ℕ
  m = length p.names

  abbrev front : List ℕ
  front = section name_bytes p.names

  abbrev blocks : List ℕ
  blocks = flat_map session_bytes p.sessions

  abbrev settings : List ℕ
  settings = section one (p.constants ∷ p.bound ∷ [])

  from-sessions : Spans file (0 + length front + 1) (blocks ++ (section one p.unary ++ (section one p.binary ++ settings))) (length file)
  from-sessions =
      second file (one (length p.sessions)) (blocks ++ (section one p.unary ++ (section one p.binary ++ settings)))
      (second file front (section session_bytes p.sessions ++ (section one p.unary ++ (section one p.binary ++ settings))) (whole_run file (file_bytes p) e))

  from-unary : Spans file (0 + length front + 1 + length blocks + 1) (flat_map one p.unary ++ (section one p.binary ++ settings)) (length file)
  from-unary =
      second file (one (length p.unary)) (flat_map one p.unary ++ (section one p.binary ++ settings))
      (second file blocks (section one p.unary ++ (section one p.binary ++ settings)) from-sessions)

  from-binary : Spans file (0 + length front + 1 + length blocks + 1 + length (flat_map one p.unary) + 1) (flat_map one p.binary ++ settings) (length file)
  from-binary =
      second file (one (length p.binary)) (flat_map one p.binary ++ settings)
      (second file (flat_map one p.unary) (section one p.binary ++ settings) from-unary)

  sized : length blocks ≡ length p.sessions * (2 + 8 * m)
  sized = length-sessions m p.sessions [] g.sessions

  to-sessions : (rest : List ℕ) × (drop (length front + 1) file ≡ blocks ++ rest)
  to-sessions =
      let z : length front + 1 ≡ 0 + length front + 1 = omega arith in
      (_, ap (λ (n : ℕ). drop n file) z ∙ from-sessions.is ∙ append_assoc blocks (section one p.unary ++ (section one p.binary ++ settings)) (drop (length file) file))

  to-unary : (rest : List ℕ) × (drop (length front + 1 + length p.sessions * (2 + 8 * m) + 1) file ≡ flat_map one p.unary ++ rest)
  to-unary =
      let z : length front + 1 + length p.sessions * (2 + 8 * m) + 1 ≡ 0 + length front + 1 + length blocks + 1 = omega (arith, sized) in
      (_, ap (λ (n : ℕ). drop n file) z ∙ from-unary.is ∙ append_assoc (flat_map one p.unary) (section one p.binary ++ settings) (drop (length file) file))

  to-binary : (rest : List ℕ) × (drop (length front + 1 + length p.sessions * (2 + 8 * m) + length p.unary + 2) file ≡ flat_map one p.binary ++ rest)
  to-binary =
      let z : length front + 1 + length p.sessions * (2 + 8 * m) + length p.unary + 2 ≡ 0 + length front + 1 + length blocks + 1 + length (flat_map one p.unary) + 1 =
      omega (arith, sized, ap length (ones p.unary)) in
      (_, ap (λ (n : ℕ). drop n file) z ∙ from-binary.is ∙ append_assoc (flat_map one p.binary) settings (drop (length file) file))

  pub layout : Layout p file
  unfolding flat_map
  layout =
      let s = to-sessions in
      let u = to-unary in
      let b = to-binary in
      record {
        marks = ap (strided (2 + 8 * m) (length p.sessions)) s.1 ∙ marks-there m p.sessions [] s.0 g.sessions;
        lengths = ap (strided (2 + 8 * m) (length p.sessions)) (sym (drop-drop 1 (length front + 1) file) ∙ ap (drop 1) s.1) ∙ lengths-there m p.sessions [] s.0 g.sessions;
        words = ap (session_words m (length p.sessions)) s.1 ∙ session-words-there m p.sessions [] s.0 g.sessions;
        unary = ap (strided 1 (length p.unary)) u.1 ∙ codes-there p.unary u.0;
        binary = ap (strided 1 (length p.binary)) b.1 ∙ codes-there p.binary b.0;
        room = omega (arith, from-binary.end, sized, ap length (ones p.unary), ap length (ones p.binary), length-append (flat_map one p.binary) settings);
      }
