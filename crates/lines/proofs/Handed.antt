-- What the reader hands out, as the input of a search, and from there to the lines of a file.
-- Assumes nothing.
use mathlib.Core.Path.{◌≡◌, refl, sym, ap, ◌∙◌, subst}
use mathlib.Core.Bool.{true}
use mathlib.Core.List.{List, [], ◌∷◌, ◌++◌}
use Prim.Native.Nat.{ℕ, ◌+◌, ◌*◌, ◌≤◌}
use native.Mathlib.Nat.{mul-le-mul}
use native.Mathlib.Omega.{arith}
use lib.ListN.{length, take, drop, replicate, length-append, length-map, length-replicate}
use lib.Dec.{leb}
use lib.Seq.{sets-eq, length-take-le}
use borrow.Author.Tests.{le-leb}
use Rattle.std.proofs.Common.{Result, Ok, Err}
use Rattle.file.specs.declared.Parts.{Parts as Numbers}
use Rattle.file.specs.declared.ReadError.{ReadError}
use Rattle.file.specs.declared.ReadError.TheVariants.{Broken, Room}
use Rattle.file.specs.Format.{Parts, Good, file_bytes}
use Rattle.reading.specs.Reading.{section, Got, got, bad}
use Rattle.names.specs.Names.{name_bytes, whole_names}
use Rattle.file.specs.Offence.{whole_file}
use Rattle.rules.specs.Answers.{Said, over}
use Rattle.file.specs.Reading.{said_read, Lent, lent, After, read_after, marks_of, lengths_of, words_of, room_for, handed_out, outcome, read_of}
use Rattle.file.proofs.Numbers.{Bytes}
use Rattle.file.proofs.Positions.{length-all-words}
use Rattle.file.proofs.CodeLaws.{good-unary, good-binary}
use Rattle.reading.proofs.Ends.{each_map}
use Rattle.file.proofs.Whole.{few-unary, few-binary, passed-is-good}
use Rattle.file.proofs.Theorems.{front-is-names}
use Rattle.walk.specs.Input.{Input}
use Rattle.writing.specs.Writing.{Wrote}
use Rattle.walk.specs.Input as walking
use Rattle.line.specs.Line.{broken_line}
use Rattle.lines.specs.Bench.{file_input, Says, LinesOf}
use Rattle.lines.specs.Inner.{Given, GivenBy, WrittenFor}
use Rattle.line.proofs.Digits.{broken-short}
use Rattle.lines.proofs.Shown.{front}

-- the lent slices hold any good file's parts
pub record Wide (l : Lent) : Type 0 where
  pub marks : length l.marks ≡ 32
  pub lengths : length l.lengths ≡ 32
  pub words : length l.words ≡ 512
  pub unary : length l.unary ≡ 5
  pub binary : length l.binary ≡ 6

-- arrays of zeros are such
unfoldable pub blank : Lent
blank = lent (replicate 32 0) (replicate 32 0) (replicate 512 0) (replicate 5 0) (replicate 6 0)

pub blank-wide : Wide blank
unfolding blank
blank-wide = record {
  marks = length-replicate {A = ℕ} 32 0;
  lengths = length-replicate {A = ℕ} 32 0;
  words = length-replicate {A = ℕ} 512 0;
  unary = length-replicate {A = ℕ} 5 0;
  binary = length-replicate {A = ℕ} 6 0;
}

module _ (p : Parts) (g : Good p) (l : Lent) (wide : Wide l) where
  unary-few : length p.unary ≤ 5
  unary-few = few-unary p.unary (each_map good-unary p.unary [] g.unary)

  binary-few : length p.binary ≤ 6
  binary-few = few-binary p.binary (each_map good-binary p.binary [] g.binary)

  words-few : length p.names * length p.sessions ≤ 512
  words-few = mul-le-mul {n₂ = 16} {m₂ = 32} g.few_names g.few_sessions

  room-for : room_for p l ≡ true
  room-for =
      let a : leb (length p.sessions) (length l.marks) ≡ true = le-leb (length p.sessions) (length l.marks) (omega (arith, wide.marks, g.few_sessions)) in
      let b : leb (length p.sessions) (length l.lengths) ≡ true = le-leb (length p.sessions) (length l.lengths) (omega (arith, wide.lengths, g.few_sessions)) in
      let c : leb (length p.names * length p.sessions) (length l.words) ≡ true = le-leb (length p.names * length p.sessions) (length l.words) (omega
      (arith, wide.words, words-few)) in
      let d : leb (length p.unary) (length l.unary) ≡ true = le-leb (length p.unary) (length l.unary) (omega (arith, wide.unary, unary-few)) in
      let e : leb (length p.binary) (length l.binary) ≡ true = le-leb (length p.binary) (length l.binary) (omega (arith, wide.binary, binary-few)) in
      rw (a, b, c, d, e)

-- the first of a list that begins with new contents
pub record Part (new list : List ℕ) (n : ℕ) : Type 0 where
  pub there : n ≤ length list
  pub long : n ≡ length (take n list)
  pub is : take n list ≡ new

part : (new old list : List ℕ) (n : ℕ) → list ≡ over new old → n ≡ length new → Part new list n
part new old list n e h =
    let t : n ≤ length list = omega (arith, ap length e, length-append new (drop (length new) old)) in
    record { there = t; long = sym (length-take-le n list t); is = ap (take n) e ∙ front new old n h }

front-room : (p : Parts) → length (section name_bytes p.names) ≤ length (file_bytes p)
front-room p = front-in (section name_bytes p.names) _
  where
    front-in : (x y : List ℕ) → length x ≤ length (x ++ y)
    front-in x y = omega (arith, length-append x y)

-- bytes written from the start on
pub over-start : {old new lines : List ℕ} {x : ℕ} → Wrote old 0 lines new x → length lines ≤ length old → (x ≡ length lines) × (new ≡ over lines old)
over-start {old} {new} {lines} {x} w h = (
  omega (arith, w.next),
  w.holds ∙ sets-eq lines old 0 (omega arith) ∙ ap (λ (i : ℕ). lines ++ drop i old) (let i : 0 + length lines ≡ length lines = omega arith in i),
)

values : {a b : Said} → a ≡ b → a.values ≡ b.values
values e = ap (λ (x : Said). x.values) e

number : {a b : Said} → a ≡ b → a.number ≡ b.number
number e = ap (λ (x : Said). x.number) e

module _ (file : List ℕ) (bytes : Bytes file) (l : Lent) (wide : Wide l) (a : Result Numbers ReadError) (marks lengths words unary binary : List ℕ)
    (e : read_after (said_read a) marks lengths words unary binary ≡ read_of file l) where
  -- a good file's parts are handed out
  all-handed : (p : Parts) (next : ℕ) → Good p → whole_file file ≡ got p next → read_after (said_read a) marks lengths words unary binary ≡ handed_out p l
  all-handed p next g i =
      let room : outcome (got p next) l ≡ handed_out p l = rw (room-for p g l wide) in
      e ∙ ap (λ (w : Got Parts). outcome w l) i ∙ room

  -- a broken file
  pub broken-at : {o : ℕ} → a ≡ Err (Broken o) → whole_file file ≡ bad o
  broken-at {o} q = go (whole_file file) refl
    where
      go : (w : Got Parts) → whole_file file ≡ w → whole_file file ≡ bad o
      go (bad o') i =
          let x : said_read (Err (Broken o)) ≡ record { number = 8; values = o' ∷ [] } =
          ap said_read (sym q) ∙ ap (λ (x : After). x.answer) e ∙ ap (λ (g : Got Parts). (outcome g l).answer) i in
          let v = values x in
          let h : o ≡ o' = cc v in
          i ∙ ap bad (sym h)
      go (got p next) i =
          let g = (passed-is-good file bytes p next i).0 in
          let x : said_read (Err (Broken o)) ≡ (handed_out p l).answer = ap said_read (sym q) ∙ ap (λ (x : After). x.answer) (all-handed p next g i) in
          absurd (omega (arith, number x))

  -- there is always room
  pub never-room : a ≡ Err Room → ⊥
  never-room q = go (whole_file file) refl
    where
      go : (w : Got Parts) → whole_file file ≡ w → ⊥
      go (bad o') i =
          let x : said_read (Err Room) ≡ record { number = 8; values = o' ∷ [] } = ap said_read (sym q) ∙ ap (λ (x : After). x.answer) e ∙ ap (λ (g : Got Parts). (outcome g l).answer) i in
          omega (arith, number x)
      go (got p next) i =
          let g = (passed-is-good file bytes p next i).0 in
          let x : said_read (Err Room) ≡ (handed_out p l).answer = ap said_read (sym q) ∙ ap (λ (x : After). x.answer) (all-handed p next g i) in
          omega (arith, number x)

  -- a good file: its parts, and where they are
  pub record Handed (r m n u b constants bound : ℕ) : Type 0 where
    pub parts : Parts
    pub next : ℕ
    pub is : whole_file file ≡ got parts next
    pub good : Good parts
    pub count : r ≡ length parts.sessions
    pub width : m ≡ length parts.names
    pub mark : constants ≡ parts.constants
    pub size : bound ≡ parts.bound
    pub small : m * r ≤ 512
    pub names_in : n ≤ length file
    pub names-long : n ≡ length (take n file)
    pub front-is : whole_names (take n file) ≡ got parts.names n
    pub all-marks : Part (marks_of parts) marks r
    pub all-lengths : Part (lengths_of parts) lengths r
    pub all_words : Part (words_of parts) words (m * r)
    pub all-unary : Part parts.unary unary u
    pub all-binary : Part parts.binary binary b

  pub handed : {k : Numbers} → a ≡ Ok k → Handed k.sessions k.propositions k.names k.unary k.binary k.constants k.bound
  handed {k} q = go (whole_file file) refl
    where
      go : (w : Got Parts) → whole_file file ≡ w → Handed k.sessions k.propositions k.names k.unary k.binary k.constants k.bound
      go (bad o') i =
          let x : said_read (Ok k) ≡ record { number = 8; values = o' ∷ [] } = ap said_read (sym q) ∙ ap (λ (x : After). x.answer) e ∙ ap (λ
          (g : Got Parts). (outcome g l).answer) i in
          absurd (omega (arith, number x))
      go (got p next) i =
          let t = passed-is-good file bytes p next i in
          let g = t.0 in
          let y : read_after (said_read a) marks lengths words unary binary ≡ handed_out p l = all-handed p next g i in
          let x : said_read (Ok k) ≡ (handed_out p l).answer = ap said_read (sym q) ∙ ap (λ (x : After). x.answer) y in
          let v = values x in
          let hr : k.sessions ≡ length p.sessions = cc v in
          let hm : k.propositions ≡ length p.names = cc v in
          let hn : k.names ≡ length (section name_bytes p.names) = cc v in
          let hu : k.unary ≡ length p.unary = cc v in
          let hb : k.binary ≡ length p.binary = cc v in
          let hc : k.constants ≡ p.constants = cc v in
          let hd : k.bound ≡ p.bound = cc v in
          let hw : k.propositions * k.sessions ≡ length (words_of p) = ap (λ (z : ℕ). z * k.sessions) hm ∙ ap (λ (z : ℕ). length p.names * z) hr ∙ sym (length-all-words (length p.names)
          p.sessions [] g.sessions) in
          let f : take k.names file ≡ take (length (section name_bytes p.names)) (file_bytes p) = ap (λ (z : ℕ). take z file) hn ∙ ap (take (length (section name_bytes
          p.names))) (sym t.1) in
          let nin : k.names ≤ length file = omega (arith, hn, ap length t.1, front-room p) in
          record {
            parts = p;
            next = next;
            is = i;
            good = g;
            count = hr;
            width = hm;
            mark = hc;
            size = hd;
            small = (let z = words-few p g l wide in omega (arith, hw, length-all-words (length p.names) p.sessions [] g.sessions));
            names_in = nin;
            names-long = sym (length-take-le k.names file nin);
            front-is = ap whole_names f ∙ front-is-names p g ∙ ap (got p.names) (sym hn);
            all-marks = part (marks_of p) l.marks marks k.sessions (ap (λ (x : After). x.left.marks) y) (hr ∙ sym (length-map p.sessions (λ s. s.mark)));
            all-lengths = part (lengths_of p) l.lengths lengths k.sessions (ap (λ (x : After). x.left.lengths) y) (hr ∙ sym (length-map p.sessions (λ s. s.length)));
            all_words = part (words_of p) l.words words (k.propositions * k.sessions) (ap (λ (x : After). x.left.words) y) hw;
            all-unary = part p.unary l.unary unary k.unary (ap (λ (x : After). x.left.unary) y) hu;
            all-binary = part p.binary l.binary binary k.binary (ap (λ (x : After). x.left.binary) y) hb;
          }

  -- as a search is given it
  module _ {r m n u b constants bound : ℕ} (h : Handed r m n u b constants bound) (room : ℕ) where
    abbrev pub input : Input
    input = walking.input_of r m bound room constants (take r marks) (take r lengths) (take (m * r) words) (take u unary) (take b binary)

    pub same : input ≡ file_input h.parts room
    same =
        ap (λ (z : ℕ). walking.input_of z m bound room constants (take r marks) (take r lengths) (take (m * r) words) (take u unary) (take b binary)) h.count
        ∙ ap (λ (z : ℕ). walking.input_of (length h.parts.sessions) z bound room constants (take r marks) (take r lengths) (take (m * r) words) (take u unary)
        (take b binary)) h.width
        ∙ ap (λ (z : ℕ). walking.input_of (length h.parts.sessions) (length h.parts.names) z room constants (take r marks) (take r lengths) (take (m * r) words)
        (take u unary) (take b binary)) h.size
        ∙ ap (λ (z : ℕ). walking.input_of (length h.parts.sessions) (length h.parts.names) h.parts.bound room z (take r marks) (take r lengths) (take
        (m * r) words) (take u unary) (take b binary)) h.mark
        ∙ ap (λ (z : List ℕ). walking.input_of (length h.parts.sessions) (length h.parts.names) h.parts.bound room h.parts.constants z (take r lengths) (take
        (m * r) words) (take u unary) (take b binary)) h.all-marks.is
        ∙ ap (λ (z : List ℕ). walking.input_of (length h.parts.sessions) (length h.parts.names) h.parts.bound room h.parts.constants (marks_of h.parts) z
        (take (m * r) words) (take u unary) (take b binary)) h.all-lengths.is
        ∙ ap (λ (z : List ℕ). walking.input_of (length h.parts.sessions) (length h.parts.names) h.parts.bound room h.parts.constants (marks_of h.parts)
        (lengths_of h.parts) z (take u unary) (take b binary)) h.all_words.is
        ∙ ap (λ (z : List ℕ). walking.input_of (length h.parts.sessions) (length h.parts.names) h.parts.bound room h.parts.constants (marks_of h.parts)
        (lengths_of h.parts) (words_of h.parts) z (take b binary)) h.all-unary.is
        ∙ ap (λ (z : List ℕ). walking.input_of (length h.parts.sessions) (length h.parts.names) h.parts.bound room h.parts.constants (marks_of h.parts)
        (lengths_of h.parts) (words_of h.parts) h.parts.unary z) h.all-binary.is

    given : Given (take n file) input h.parts
    given = record { good = h.good; next = n; front = h.front-is; same = same }

    pub given_by : GivenBy (take n file) input
    given_by = (h.parts, given)

    pub good-lines : {old new : List ℕ} {x : ℕ} → WrittenFor (take n file) input old x new → LinesOf file room old x new
    good-lines {old} {new} {x} w =
        let v = w h.parts given in
        let t = over-start v.wrote v.fits in
        record {
          lines = v.lines;
          says = subst (λ (g : Got Parts). Says g room v.lines) (sym h.is) v.says;
          long = t.0;
          holds = t.1;
        }

  pub broken-lines : {o : ℕ} (room : ℕ) → a ≡ Err (Broken o) → {old new : List ℕ} {x : ℕ} → 512 ≤ length old → Wrote old 0 (broken_line o) new x → LinesOf file room old x new
  broken-lines {o} room q {old} {new} {x} h w =
      let t = over-start w (omega (arith, broken-short o)) in
      record {
        lines = broken_line o;
        says = subst (λ (g : Got Parts). Says g room (broken_line o)) (sym (broken-at q)) refl;
        long = t.0;
        holds = t.1;
      }
