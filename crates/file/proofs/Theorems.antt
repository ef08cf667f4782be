-- What a reader of document 01 will look for: the reader accepts exactly the good files and gives their parts, what it hands out passes the tests
-- of session data and the search's own tests, a writer's bytes read back give the parts, and any two allowed results are equal.
-- Assumes nothing.
use mathlib.Core.Path.{◌≡◌, refl, sym, ap, ◌∙◌}
use mathlib.Core.Bool.{true}
use mathlib.Core.List.Memᴰ
use mathlib.Core.List.{List, [], ◌∷◌, ◌++◌, map, flat_map, Memᴰ}
use Prim.Native.Nat.{ℕ, zero, suc, ◌+◌, ◌*◌, ◌≤◌, ◌<◌}
use native.Mathlib.Nat.{suc-mul}
use native.Mathlib.Omega.{arith}
use lib.ListN.{length, get_or, take, drop, length-map, length-append, get_or-append}
use lib.Seq.{get_or-append-add, take-append_seam}
use Rattle.words.specs.Word.{width, Wf}
use Rattle.rules.specs.Refusals.{Decided}
use Rattle.sequence.specs.Operators.{Unary, Binary, unary_code, binary_code}
use Rattle.std.proofs.Common.{Result, Ok, Err}
use Rattle.file.specs.declared.Parts.{Parts as Numbers}
use Rattle.file.specs.declared.ReadError.{ReadError}
use Rattle.file.specs.declared.ReadError.TheVariants.{Broken, Room}
use Rattle.file.specs.Format.{FileSession, Parts, session_bytes, file_bytes, GoodSession, GoodUnary, GoodBinary, Good, GoodFile}
use Rattle.reading.specs.Reading.{one, section, Got, got, bad}
use Rattle.names.specs.Names.{name_bytes, whole_names}
use Rattle.rules.specs.Lists.{Each}
use Rattle.file.specs.Offence.{whole_file}
use Rattle.session.specs.Data.{data_rows}
use Rattle.session.specs.Recording.{recording}
use Rattle.rules.specs.Answers.{Said}
use Rattle.file.specs.Reading.{said_read, Lent, lent, After, read_after, marks_of, lengths_of, words_of, room_for, read_of}
use Rattle.reading.proofs.Readers.{got-bad, got-value}
use Rattle.reading.proofs.Ends.{each_at}
use Rattle.names.proofs.Theorems.{names-accepts}
use Rattle.file.specs.Promises.{Bytes, AcceptsGood, RefusesOthers, BytesReadBack, OneReading}
use Rattle.file.proofs.Whole.{passed-is-good, good-passes}
use Rattle.file.proofs.Positions.{length-all-words}
use Rattle.session.proofs.DataLaws.{is-0, inside, roomy, block}

-- ---- the format

pub accepts-good : AcceptsGood
accepts-good file bytes p = (λ e. passed-is-good file bytes p (length file) e, λ t. good-passes file p t.0 t.1)

pub refuses-others : RefusesOthers
refuses-others file bytes = (λ e g. got-bad (sym (good-passes file g.0 g.1 g.2) ∙ e.1), λ n. go n (whole_file file) refl)
  where
    go : (GoodFile file → ⊥) → (g : Got Parts) → whole_file file ≡ g → (o : ℕ) × (whole_file file ≡ bad o)
    go n (bad o) e = (o, e)
    go n (got p next) e = let t = passed-is-good file bytes p next e in absurd (n (p, t.0, t.1))

pub bytes-read-back : BytesReadBack
bytes-read-back p g = good-passes (file_bytes p) p g refl

pub one-reading : OneReading
one-reading p q g h e = got-value (sym (good-passes (file_bytes q) p g e) ∙ bytes-read-back q h)

-- ---- a names section

-- "the caller hands the file's first bytes to print": as many as the reader answers are the names section of the same names
pub front-is-names : (p : Parts) → Good p → whole_names (take (length (section name_bytes p.names)) (file_bytes p)) ≡ got p.names (length (section name_bytes p.names))
front-is-names p g =
    let front = section name_bytes p.names in
    let e : take (length front) (file_bytes p) ≡ front =
    take-append_seam front (section session_bytes p.sessions ++ (section one p.unary ++ (section one p.binary ++ section one (p.constants ∷ p.bound ∷ [])))) in
    rw e ((names-accepts front p.names).1 ((g.some_names, g.few_names, g.names), refl))

-- ---- what is handed out

module _ (m : ℕ) where
  abbrev Sessions : List FileSession → List FileSession → Type 0
  Sessions before ss = Each (λ _ s. GoodSession m s) before ss

  marks-good : (ss before : List FileSession) → Sessions before ss → (i : ℕ) → i < length ss → get_or (map (λ s. s.mark) ss) i 0 ≤ 1
  unfolding Each
  marks-good [] before e i h = absurd (omega arith)
  marks-good (s ∷ ss) before e zero h = e.0.mark
  marks-good (s ∷ ss) before e (suc i) h = marks-good ss (before ++ (s ∷ [])) e.1 i (omega arith)

  lengths-good : (ss before : List FileSession) → Sessions before ss → (i : ℕ) → i < length ss → get_or (map (λ s. s.length) ss) i 0 ≤ width
  unfolding Each
  lengths-good [] before e i h = absurd (omega arith)
  lengths-good (s ∷ ss) before e zero h = e.0.short
  lengths-good (s ∷ ss) before e (suc i) h = lengths-good ss (before ++ (s ∷ [])) e.1 i (omega arith)

  words-good : (ss before : List FileSession) → Sessions before ss → (i : ℕ) → i < length ss → (p : ℕ) → p < m → Wf
      (get_or (map (λ s. s.length) ss) i 0) (get_or (flat_map (λ s. s.words) ss) (i * m + p) 0)
  unfolding Each flat_map
  words-good [] before e i h p l = absurd (omega arith)
  words-good (s ∷ ss) before e zero h p l =
      let z : 0 * m + p ≡ p = omega arith in
      rw (z, get_or-append s.words (flat_map (λ s. s.words) ss) 0 p (omega (arith, e.0.count)))
      (each_at (λ _ w. Wf s.length w) 0 s.words [] e.0.words p (omega (arith, e.0.count)))
  words-good (s ∷ ss) before e (suc i) h p l =
      let z : suc i * m + p ≡ length s.words + (i * m + p) = omega (arith, suc-mul i m, e.0.count) in
      rw (z, get_or-append-add s.words (flat_map (λ s. s.words) ss) (i * m + p) 0)
      (words-good ss (before ++ (s ∷ [])) e.1 i (omega arith) p l)

-- what the reader hands out passes the tests of session data, whatever stands after it in the lent slices
pub handed-out-passes : (p : Parts) → Good p → (x y z : List ℕ) → Decided (data_rows (recording (length p.sessions) (length p.names) (marks_of p ++ x) (lengths_of p ++ y) (words_of p ++ z))) 0
handed-out-passes p g x y z =
    is-0 r m (marks_of p ++ x) (lengths_of p ++ y) (words_of p ++ z)
    (inside r m g.some_sessions g.few_sessions g.some_names g.few_names)
    (roomy r m (marks_of p ++ x) (lengths_of p ++ y) (words_of p ++ z)
    (omega (arith, km, length-append (marks_of p) x)) (omega (arith, kl, length-append (lengths_of p) y)) (omega (arith, kw, length-append (words_of p) z)))
    (λ i h. rw (front (lengths_of p) y i (omega (arith, kl))) (lengths-good m p.sessions [] g.sessions i h))
    (λ i h q l. rw (front (lengths_of p) y i (omega (arith, kl)), front (words_of p) z (i * m + q) (omega (arith, kw, block i r m h))) (words-good m p.sessions [] g.sessions i h q l))
    (λ i h. rw (front (marks_of p) x i (omega (arith, km))) (marks-good m p.sessions [] g.sessions i h))
  where
    r : ℕ
    r = length p.sessions

    m : ℕ
    m = length p.names

    km : length (marks_of p) ≡ length p.sessions
    km = length-map p.sessions (λ s. s.mark)

    kl : length (lengths_of p) ≡ length p.sessions
    kl = length-map p.sessions (λ s. s.length)

    kw : length (words_of p) ≡ length p.names * length p.sessions
    kw = length-all-words (length p.names) p.sessions [] g.sessions

    front : (l t : List ℕ) (i : ℕ) → i < length l → get_or (l ++ t) i 0 ≡ get_or l i 0
    front l t i h = get_or-append l t 0 i h

-- in the words of the contract: where `read` answers parts, the slices that it leaves pass
pub read-passes : (file : List ℕ) → Bytes file → (l : Lent) (p : Parts) (next : ℕ) → whole_file file ≡ got p next → room_for p l ≡ true
    → Decided (data_rows (recording (length p.sessions) (length p.names) (read_of file l).left.marks (read_of file l).left.lengths (read_of file l).left.words)) 0
read-passes file bytes l p next e room =
    let g = (passed-is-good file bytes p next e).0 in
    rw (e, room) (handed-out-passes p g (drop (length (marks_of p)) l.marks) (drop (length (lengths_of p)) l.lengths) (drop (length (words_of p)) l.words))

-- the codes too: each is in its group, and none stands twice
member : (l : List ℕ) (i j : ℕ) → i < j → j < length l → Memᴰ (get_or l i 0) (take j l)
member [] i j h k = absurd (omega arith)
member (a ∷ l) zero zero h k = absurd (omega arith)
member (a ∷ l) zero (suc j) h k = Memᴰ.head refl
member (a ∷ l) (suc i) zero h k = absurd (omega arith)
member (a ∷ l) (suc i) (suc j) h k = Memᴰ.tail (member l i j (omega arith) (omega arith))

pub unary-pass : (p : Parts) → Good p → (i : ℕ) → i < length p.unary → (op : Unary) × (unary_code op ≡ get_or p.unary i 0)
unary-pass p g i h = (each_at GoodUnary 0 p.unary [] g.unary i h).0

pub binary-pass : (p : Parts) → Good p → (i : ℕ) → i < length p.binary → (op : Binary) × (binary_code op ≡ get_or p.binary i 0)
binary-pass p g i h = (each_at GoodBinary 0 p.binary [] g.binary i h).0

pub unary-once : (p : Parts) → Good p → (i j : ℕ) → i < j → j < length p.unary → get_or p.unary i 0 ≡ get_or p.unary j 0 → ⊥
unary-once p g i j h k e = (each_at GoodUnary 0 p.unary [] g.unary j k).1 (Memᴰ.cast (sym e) (member p.unary i j h k))

pub binary-once : (p : Parts) → Good p → (i j : ℕ) → i < j → j < length p.binary → get_or p.binary i 0 ≡ get_or p.binary j 0 → ⊥
binary-once p g i j h k e = (each_at GoodBinary 0 p.binary [] g.binary j k).1 (Memᴰ.cast (sym e) (member p.binary i j h k))

-- ---- any two allowed results are equal

-- the numbers of the parts that these values say
numbers : List ℕ → Numbers
numbers l =
    record {
      sessions = get_or l 0 0;
      propositions = get_or l 1 0;
      names = get_or l 2 0;
      unary = get_or l 3 0;
      binary = get_or l 4 0;
      constants = get_or l 5 0;
      bound = get_or l 6 0;
    }

said-one : (a b : Result Numbers ReadError) → said_read a ≡ said_read b → a ≡ b
unfolding numbers
said-one (Ok n) (Ok m) e = ap (λ (s : Said). Ok (numbers s.values)) e
said-one (Ok n) (Err (Broken o)) e = let t : ◌≡◌ {A = ℕ} 0 8 = ap (λ (s : Said). s.number) e in absurd (omega arith)
said-one (Ok n) (Err Room) e = let t : ◌≡◌ {A = ℕ} 0 3 = ap (λ (s : Said). s.number) e in absurd (omega arith)
said-one (Err (Broken o)) (Ok n) e = let t : ◌≡◌ {A = ℕ} 8 0 = ap (λ (s : Said). s.number) e in absurd (omega arith)
said-one (Err (Broken o)) (Err (Broken o')) e = let t : o ∷ [] ≡ o' ∷ [] = ap (λ (s : Said). s.values) e in cc
said-one (Err (Broken o)) (Err Room) e = let t : ◌≡◌ {A = ℕ} 8 3 = ap (λ (s : Said). s.number) e in absurd (omega arith)
said-one (Err Room) (Ok n) e = let t : ◌≡◌ {A = ℕ} 3 0 = ap (λ (s : Said). s.number) e in absurd (omega arith)
said-one (Err Room) (Err (Broken o)) e = let t : ◌≡◌ {A = ℕ} 3 8 = ap (λ (s : Said). s.number) e in absurd (omega arith)
said-one (Err Room) (Err Room) e = refl

-- `read`: the answer and the later contents of all five lent slices
pub read-unique : (file : List ℕ) (l : Lent) (a b : Result Numbers ReadError) (m n u v w m' n' u' v' w' : List ℕ) → read_after (said_read a) m n u v w ≡ read_of file l
    → read_after (said_read b) m' n' u' v' w' ≡ read_of file l
    → (a ≡ b) × (lent m n u v w ≡ lent m' n' u' v' w')
read-unique file l a b m n u v w m' n' u' v' w' p q =
    let e : read_after (said_read a) m n u v w ≡ read_after (said_read b) m' n' u' v' w' = p ∙ sym q in
    (said-one a b (ap (λ (x : After). x.answer) e), ap (λ (x : After). x.left) e)
