-- From the judging pass to the answer: what its numbers say of the file, what is refused, and what the writing pass leaves.
-- Assumes nothing.
use mathlib.Core.Path.{◌≡◌, refl, sym, ap, ◌∙◌, subst}
use mathlib.Core.Bool.{Bool, true, false}
use mathlib.Core.List.{List, []}
use Prim.Native.Nat.{ℕ, ◌+◌, ◌*◌, ◌≤◌}
use native.Mathlib.Nat.{mul-le-mul}
use native.Mathlib.Omega.{arith}
use borrow.Author.Tests.{le-leb}
use lib.ListN.{length, drop, length-map}
use lib.Seq.{sets}
use Rattle.std.proofs.Common.{Result, Ok, Err}
use Rattle.reading.specs.declared.Broken.{Broken as BrokenAt}
use Rattle.file.specs.declared.Parts.{Parts as Numbers}
use Rattle.file.specs.declared.ReadError.TheVariants.{Broken, Room}
use Rattle.sections.specs.Numbers.{file_sessions, file_propositions}
use Rattle.file.specs.Format.{Parts, Good}
use Rattle.reading.specs.Reading.{section, Got, got, bad}
use Rattle.names.specs.Names.{name_bytes}
use Rattle.file.specs.Offence.{whole_file}
use Rattle.file.specs.Reading.{said_read, Lent, lent, read_after, marks_of, lengths_of, words_of, room_for, read_of}
use Rattle.rules.specs.Answers.{over}
use Rattle.file.specs.Inner.{judged, judged_of, Enough, strided, session_words}
use Rattle.file.proofs.Numbers.{Bytes}
use Rattle.file.proofs.Whole.{passed-is-good}
use Rattle.file.proofs.Positions.{layout, filled, length-all-words}

module _ (file : List ℕ) where
  -- what is known of a file that passed, by the numbers of its parts
  pub record Known (r m a u v constants bound : ℕ) : Type 0 where
    pub parts : Parts
    pub next : ℕ
    pub is : whole_file file ≡ got parts next
    pub good : Good parts
    pub count : length parts.sessions ≡ r
    pub width : length parts.names ≡ m
    pub front : length (section name_bytes parts.names) ≡ a
    pub unaries : length parts.unary ≡ u
    pub binaries : length parts.binary ≡ v
    pub mark : parts.constants ≡ constants
    pub size : parts.bound ≡ bound
    pub few : r ≤ file_sessions
    pub narrow : m ≤ file_propositions
    pub room : a + 1 + r * (2 + 8 * m) + u + 2 + v + 3 ≡ length file
    pub marks : strided (2 + 8 * m) r (drop (a + 1) file) ≡ marks_of parts
    pub lengths : strided (2 + 8 * m) r (drop (a + 1 + 1) file) ≡ lengths_of parts
    pub words : session_words m r (drop (a + 1) file) ≡ words_of parts
    pub unary : strided 1 u (drop (a + 1 + r * (2 + 8 * m) + 1) file) ≡ parts.unary
    pub binary : strided 1 v (drop (a + 1 + r * (2 + 8 * m) + u + 2) file) ≡ parts.binary

  abbrev pub KnownBy : Numbers → Type 0
  KnownBy n = Known n.sessions n.propositions n.names n.unary n.binary n.constants n.bound

  KnownOf : Result Numbers BrokenAt → Type 0
  KnownOf (Ok n) = KnownBy n
  KnownOf (Err o) = whole_file file ≡ bad o.0

  module _ (bs : Bytes file) where
    known_of : (g : Got Parts) → whole_file file ≡ g → KnownOf (judged g)
    unfolding KnownOf
    known_of (bad o) e = e
    known_of (got p next) e =
        let t = passed-is-good file bs p next e in
        let l = layout p file t.0 t.1 in
        record {
          parts = p;
          next = next;
          is = e;
          good = t.0;
          count = refl;
          width = refl;
          front = refl;
          unaries = refl;
          binaries = refl;
          mark = refl;
          size = refl;
          few = t.0.few_sessions;
          narrow = t.0.few_names;
          room = l.room;
          marks = l.marks;
          lengths = l.lengths;
          words = l.words;
          unary = l.unary;
          binary = l.binary;
        }

    told : {answer : Result Numbers BrokenAt} → answer ≡ judged_of file → KnownOf answer
    told j = subst KnownOf (sym j) (known_of (whole_file file) refl)

    pub known : {n : Numbers} → Ok n ≡ judged_of file → KnownBy n
    unfolding KnownOf
    known j = told j

    pub known-bad : {o : BrokenAt} → Err o ≡ judged_of file → whole_file file ≡ bad o.0
    unfolding KnownOf
    known-bad j = told j

  -- ---- the answers

  module _ (marks lengths words unary binary : List ℕ) where
    abbrev all : Lent
    all = lent marks lengths words unary binary

    pub refused : {o : ℕ} → whole_file file ≡ bad o → read_after (said_read (Err (Broken o))) marks lengths words unary binary ≡ read_of file all
    refused e = rw e

    module _ {r m a u v constants bound : ℕ} (k : Known r m a u v constants bound) where
      pub no_room : {b : Bool} → Enough (length marks) (length lengths) (length words) (length unary) (length binary) r (m * r) u v b → b ≡ false
          → read_after (said_read (Err Room)) marks lengths words unary binary ≡ read_of file all
      no_room e h = rw (k.is, (let z : room_for k.parts all ≡ false = rw (k.count, k.width, k.unaries, k.binaries) (e.lacks h) in z))

      module _ (hm : r ≤ length marks) (hl : r ≤ length lengths) (hw : m * r ≤ length words) (hu : u ≤ length unary) (hb : v ≤ length binary) where
        enough : room_for k.parts all ≡ true
        enough =
            rw (
              k.count,
              k.width,
              k.unaries,
              k.binaries,
              le-leb r (length marks) hm,
              le-leb r (length lengths) hl,
              le-leb (m * r) (length words) hw,
              le-leb u (length unary) hu,
              le-leb v (length binary) hb,
            )

        new-marks : sets marks 0 (strided (2 + 8 * m) r (drop (a + 1) file)) ≡ over (marks_of k.parts) marks
        new-marks = ap (sets marks 0) k.marks ∙ filled (marks_of k.parts) marks (omega (arith, length-map k.parts.sessions (λ s. s.mark), k.count))

        new-lengths : sets lengths 0 (strided (2 + 8 * m) r (drop (a + 1 + 1) file)) ≡ over (lengths_of k.parts) lengths
        new-lengths = ap (sets lengths 0) k.lengths ∙ filled (lengths_of k.parts) lengths (omega (arith, length-map k.parts.sessions (λ s. s.length), k.count))

        new-words : sets words 0 (session_words m r (drop (a + 1) file)) ≡ over (words_of k.parts) words
        new-words =
            let n : length (words_of k.parts) ≡ m * r = length-all-words (length k.parts.names) k.parts.sessions [] k.good.sessions ∙ rw (k.width, k.count) in
            ap (sets words 0) k.words ∙ filled (words_of k.parts) words (omega arith)

        new-unary : sets unary 0 (strided 1 u (drop (a + 1 + r * (2 + 8 * m) + 1) file)) ≡ over k.parts.unary unary
        new-unary = ap (sets unary 0) k.unary ∙ filled k.parts.unary unary (omega (arith, k.unaries))

        new-binary : sets binary 0 (strided 1 v (drop (a + 1 + r * (2 + 8 * m) + u + 2) file)) ≡ over k.parts.binary binary
        new-binary = ap (sets binary 0) k.binary ∙ filled k.parts.binary binary (omega (arith, k.binaries))

        pub written : read_after (said_read (Ok (record { sessions = r; propositions = m; names = a; unary = u; binary = v; constants = constants; bound = bound })))
            (sets marks 0 (strided (2 + 8 * m) r (drop (a + 1) file)))
            (sets lengths 0 (strided (2 + 8 * m) r (drop (a + 1 + 1) file)))
            (sets words 0 (session_words m r (drop (a + 1) file)))
            (sets unary 0 (strided 1 u (drop (a + 1 + r * (2 + 8 * m) + 1) file)))
            (sets binary 0 (strided 1 v (drop (a + 1 + r * (2 + 8 * m) + u + 2) file)))
            ≡ read_of file all
        written = rw (k.is, enough, new-marks, new-lengths, new-words, new-unary, new-binary, k.count, k.width, k.front, k.unaries, k.binaries, k.mark, k.size)

  -- products of the numbers are small
  pub product : {r m a u v constants bound : ℕ} → Known r m a u v constants bound → m * r ≤ 512
  product k = mul-le-mul k.narrow k.few
