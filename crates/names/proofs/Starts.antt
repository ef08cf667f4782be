-- The names of a section: where each starts, its length byte and its bytes.
-- Assumes nothing.
use mathlib.Core.Path.{◌≡◌, refl, sym, ap, ◌∙◌, subst}
use mathlib.Core.List.{List, [], ◌∷◌, ◌++◌, flat_map, append_assoc, append-nil}
use Prim.Native.Nat.{ℕ, zero, suc, ◌+◌, ◌-◌, ◌≤◌, ◌<◌}
use native.Mathlib.Omega.{arith}
use native.Mathlib.Numerals.{add-one}
use lib.ListN.{length, get_or, take, drop, length-append, take-append-drop, drop_of_length-le}
use lib.Seq.{drop-cons, take-suc}
use Rattle.names.specs.Names.{name_length, name_bytes, GoodName, name, names_up_to, names_in, GoodNames}
use Rattle.rules.specs.Limits.{most_propositions}
use Rattle.reading.specs.Reading.{one}
use Rattle.rules.specs.Lists.{Each}
use Rattle.reading.proofs.Spans.{Spans, first, second, head, taken}
use Rattle.reading.proofs.Lists.{ones}
use Rattle.reading.proofs.Readers.{Section}
use Rattle.names.specs.declared.lookup.Span.{Span}
use Rattle.names.specs.Lookup.{names_from, walk_end, names_by, LettersAt, find_from, found_in}
use Rattle.names.proofs.NameLaws.{names-sound}
use Rattle.names.proofs.Walks.{end_more}
use Rattle.names.proofs.Lookups.{letters-there}
use Rattle.reading.proofs.Ends.{end-sound}

-- where name p starts: after the count and the names before it
abbrev pub start_of : List (List ℕ) → ℕ → ℕ
start_of names p = 1 + length (flat_map name_bytes (take p names))

flat-both : (u v : List (List ℕ)) → flat_map name_bytes (u ++ v) ≡ flat_map name_bytes u ++ flat_map name_bytes v
unfolding flat_map
flat-both [] v = refl
flat-both (x ∷ u) v = ap (λ (l : List ℕ). name_bytes x ++ l) (flat-both u v) ∙ sym (append_assoc (name_bytes x) (flat_map name_bytes u) (flat_map name_bytes v))

flat-one : (x : List ℕ) (v : List (List ℕ)) → flat_map name_bytes (x ∷ v) ≡ name_bytes x ++ flat_map name_bytes v
unfolding flat_map
flat-one x v = refl

flat-single : (x : List ℕ) → flat_map name_bytes (x ∷ []) ≡ name_bytes x
unfolding flat_map
flat-single x = append-nil (name_bytes x)

-- every good name is short
short-each : (before : List (List ℕ)) (ns : List (List ℕ)) → Each GoodName before ns → (p : ℕ) → length (get_or ns p []) ≤ name_length
unfolding Each
short-each before [] e p = omega arith
short-each before (x ∷ ns) e zero = e.0.short
short-each before (x ∷ ns) e (suc p) = short-each (before ++ (x ∷ [])) ns e.1 p

-- the first name starts after the count
pub start_first : (ns : List (List ℕ)) → start_of ns 0 ≡ 1
unfolding flat_map
start_first ns = refl

module _ (file : List ℕ) (g : GoodNames file) where
  whole : Section name GoodName name_bytes file 1 most_propositions 0 (names_in file) g.0
  whole = names-sound file most_propositions 0 (end-sound file (names_up_to most_propositions file 0) g.1).0

  pub few-names : length (names_in file) ≤ most_propositions
  few-names = whole.few

  pub short-names : (p : ℕ) → length (get_or (names_in file) p []) ≤ name_length
  short-names p = short-each [] (names_in file) whole.fits p

  module _ (p : ℕ) (h : p < length (names_in file)) where
    this : List ℕ
    this = get_or (names_in file) p []

    -- the names from p on
    from : Spans file (start_of (names_in file) p) (name_bytes this ++ flat_map name_bytes (drop (suc p) (names_in file))) g.0
    unfolding this
    from =
        let ns = names_in file in
        let all = second file (length ns ∷ []) (flat_map name_bytes ns) whole.spans in
        let split : flat_map name_bytes ns ≡ flat_map name_bytes (take p ns) ++ flat_map name_bytes (drop p ns) =
        ap (flat_map name_bytes) (sym (take-append-drop p ns)) ∙ flat-both (take p ns) (drop p ns) in
        let tail : flat_map name_bytes (drop p ns) ≡ name_bytes (get_or ns p []) ++ flat_map name_bytes (drop (suc p) ns) =
        ap (flat_map name_bytes) (drop-cons ns p [] h) ∙ flat-one (get_or ns p []) (drop (suc p) ns) in
        let rest = second file (flat_map name_bytes (take p ns)) (flat_map name_bytes (drop p ns)) (subst (λ (l : List ℕ). Spans file 1 l g.0) split all) in
        subst (λ (l : List ℕ). Spans file (start_of ns p) l g.0) tail rest

    here : Spans file (start_of (names_in file) p) (name_bytes this) (start_of (names_in file) p + length (name_bytes this))
    here = first file (name_bytes this) (flat_map name_bytes (drop (suc p) (names_in file))) from

    byte : (start_of (names_in file) p < length file) × (get_or file (start_of (names_in file) p) 0 ≡ length this)
        × (drop (start_of (names_in file) p + 1) file ≡ flat_map one this ++ drop (start_of (names_in file) p + length (name_bytes this)) file)
    byte = head file (start_of (names_in file) p) (length this) (flat_map one this ++ drop (start_of (names_in file) p + length (name_bytes this)) file) here.is

    pub name-byte : get_or file (start_of (names_in file) p) 0 ≡ length (get_or (names_in file) p [])
    unfolding this
    name-byte = byte.1

    longer : start_of (names_in file) p + length (name_bytes this) ≡ start_of (names_in file) p + 1 + length this
    longer = let e = ap length (ones this) in omega arith

    letters : Spans file (start_of (names_in file) p + 1) this (start_of (names_in file) p + 1 + length this)
    letters = record {
      is = byte.2 ∙ ap (λ (l : List ℕ). l ++ drop (start_of (names_in file) p + length (name_bytes this)) file) (ones this)
          ∙ ap (λ (x : ℕ). this ++ drop x file) longer;
      end = refl;
    }

    pub name-bytes : take (length (get_or (names_in file) p [])) (drop (start_of (names_in file) p + 1) file) ≡ get_or (names_in file) p []
    unfolding this
    name-bytes = taken file this letters

    pub start-next : start_of (names_in file) (p + 1) ≡ start_of (names_in file) p + 1 + length (get_or (names_in file) p [])
    unfolding this
    start-next =
        let ns = names_in file in
        let x = get_or ns p [] in
        let e : take (p + 1) ns ≡ take p ns ++ (x ∷ []) = ap (λ (q : ℕ). take q ns) (add-one p) ∙ take-suc ns p [] h in
        let f : flat_map name_bytes (take (p + 1) ns) ≡ flat_map name_bytes (take p ns) ++ name_bytes x =
        ap (flat_map name_bytes) e ∙ flat-both (take p ns) (x ∷ []) ∙ ap (λ (l : List ℕ). flat_map name_bytes (take p ns) ++ l) (flat-single x) in
        omega (arith, ap length f, length-append (flat_map name_bytes (take p ns)) (name_bytes x), ap length (ones x))

  -- ---- what a lookup finds: the walk by the length bytes goes from name to name

  pub walk_start : (p : ℕ) → p ≤ length (names_in file) → walk_end file p 1 ≡ start_of (names_in file) p
  unfolding walk_end
  walk_start zero h = sym (start_first (names_in file))
  walk_start (suc p) h =
      let e = walk_start p (omega arith) in
      end_more file p 1 ∙ ap (λ (x : ℕ). x + 1 + get_or file x 0) e ∙ ap (λ (x : ℕ). start_of (names_in file) p + 1 + x) (name-byte p (omega arith))
      ∙ sym (start-next p (omega arith)) ∙ ap (start_of (names_in file)) (add-one p)

  -- the span that `letters` answers holds the name's letters
  pub letters-are-name : (p : ℕ) → p < length (names_in file) → {s : Span} → LettersAt file p s → take (s.to - s.from) (drop s.from file) ≡ get_or (names_in file) p []
  letters-are-name p h {s} l =
      let x = get_or (names_in file) p [] in
      let e = walk_start p (omega arith) in
      letters-there file p l ∙ ap (λ (w : ℕ). take (get_or file w 0) (drop (w + 1) file)) e
      ∙ ap (λ (n : ℕ). take n (drop (start_of (names_in file) p + 1) file)) (name-byte p h) ∙ name-bytes p h

  walk-rest : (k p : ℕ) → p + k ≡ length (names_in file) → names_from file k (start_of (names_in file) p) ≡ drop p (names_in file)
  unfolding names_from
  walk-rest zero p e = sym (drop_of_length-le (names_in file) {i = p} (omega arith))
  walk-rest (suc k) p e =
      let h : p < length (names_in file) = omega arith in
      let n : start_of (names_in file) p + 1 + get_or file (start_of (names_in file) p) 0 ≡ start_of (names_in file) (p + 1) =
      ap (λ (x : ℕ). start_of (names_in file) p + 1 + x) (name-byte p h) ∙ sym (start-next p h) in
      let first : take (get_or file (start_of (names_in file) p) 0) (drop (start_of (names_in file) p + 1) file) ≡ get_or (names_in file) p [] =
      ap (λ (x : ℕ). take x (drop (start_of (names_in file) p + 1) file)) (name-byte p h) ∙ name-bytes p h in
      ap (λ (x : List ℕ). x ∷ names_from file k (start_of (names_in file) p + 1 + get_or file (start_of (names_in file) p) 0)) first
      ∙ ap (λ (x : ℕ). get_or (names_in file) p [] ∷ names_from file k x) n
      ∙ ap (λ (l : List (List ℕ)). get_or (names_in file) p [] ∷ l) (walk-rest k (p + 1) (omega arith))
      ∙ ap (λ (x : ℕ). get_or (names_in file) p [] ∷ drop x (names_in file)) (add-one p)
      ∙ sym (drop-cons (names_in file) p [] h)

  -- so by the count and the length bytes these are the names of the section
  pub names-by : names_by file ≡ names_in file
  names-by =
      let ns = names_in file in
      let c : get_or file 0 0 ≡ length ns = (head file 0 (length ns) (flat_map name_bytes ns ++ drop g.0 file) whole.spans.is).1 in
      ap (λ (n : ℕ). names_from file n 1) c ∙ ap (λ (x : ℕ). names_from file (length ns) x) (sym (start_first ns)) ∙ walk-rest (length ns) 0 (omega arith)

  -- and `find` looks among them
  pub found-among-names : (word : List ℕ) → found_in file word ≡ find_from 0 word (names_in file)
  found-among-names word = ap (find_from 0 word) names-by
