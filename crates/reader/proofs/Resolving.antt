-- Where no name of a text is unknown, its tree is that of a formula: each name stands in the text as a word, so it is one of the names.
-- Assumes nothing.
use mathlib.Core.Path.{◌≡◌, refl, sym, ap, ap₂, ◌∙◌}
use mathlib.Core.Logic.{◌⊎◌, inl, inr, ⊎_elim}
use mathlib.Core.Bool.{Bool, true, false}
use mathlib.Core.List.{List, [], ◌∷◌, ◌++◌, append_assoc, append-nil, Memᴰ}
use Prim.Native.Nat.{ℕ, zero, suc, ◌+◌, ◌-◌, ◌≤◌, ◌<◌}
use native.Mathlib.Omega.{arith}
use lib.ListN.{length, take, drop, get_or, length-append}
use lib.Seq.{take_at, drop_at, get_or-append-add}
use Rattle.sequence.specs.Operators.{Unary, Binary, unary_code, binary_code, unary_token, binary_token}
use Rattle.sequence.specs.Operators.Unary.{not as negation, weak_next, strong_next, finally, globally}
use Rattle.sequence.specs.Operators.Binary.{or, and, until, release, implies, equiv}
use Rattle.formula.specs.Formula.{leaf, unary, binary, size, Leaf, proposition, Formula}
use Rattle.formula.specs.Formula as formula
use Rattle.formula.specs.Nodes.{Node, codes}
use Rattle.names.specs.Names.{is_name_byte, names_in}
use Rattle.names.specs.Lookup.{find_from}
use Rattle.std.proofs.Common.{Option, Some, None}
use Rattle.names.proofs.Finding.{FoundIs, found-is}
use Rattle.text.specs.Tokens.{Named}
use Rattle.grammar.specs.Name.{Name}
use Rattle.grammar.specs.Token.{Atom, name, constant, Typed, Token, pre, mid, atom, opens, closes, spell, GoodToken, is_word, ends_as_word, NoWordByte, SpelledBy, end, gap, token}
use Rattle.grammar.specs.Grammar.{Derives, alone, prefix, bracket, between, looser, Reads}
use Rattle.grammar.specs.Naming.{typed}
use Rattle.grammar.specs.Nodes.{nodes_of}
use Rattle.formula.specs.Kinds.{node}
use Rattle.reading.proofs.Lists.{true-false}
use Rattle.grammar.proofs.Words.{WordBytes, LetterFirst, letter-first, letter-word}
use Rattle.reader.specs.Words.{WordAt}
use Rattle.descent.specs.Packed.{name_number, codes_by}
use Rattle.descent.specs.Judging.{AllKnown}
use Rattle.descent.proofs.Lookup.{number_at}

-- ---- the leaves of a tree are the atoms of its tokens

abbrev AtomHolds : (Atom → Type 0) → Token → Type 0
AtomHolds P (pre u) = Unit
AtomHolds P (mid o) = Unit
AtomHolds P (atom l) = P l
AtomHolds P opens = Unit
AtomHolds P closes = Unit

All : (Atom → Type 0) → List Token → Type 0
All P [] = Unit
All P (t ∷ ts) = AtomHolds P t × All P ts

pub Leaves : (Atom → Type 0) → Typed → Type 0
Leaves P (leaf l) = P l
Leaves P (unary u t) = Leaves P t
Leaves P (binary o l r) = Leaves P l × Leaves P r

all_both : (P : Atom → Type 0) (xs ys : List Token) → All P (xs ++ ys) → All P xs × All P ys
unfolding All
all_both P [] ys a = (tt, a)
all_both P (x ∷ xs) ys a = let r = all_both P xs ys a.1 in ((a.0, r.0), r.1)

leaves : (P : Atom → Type 0) {n : ℕ} {ts : List Token} {t : Typed} → Derives n ts t → All P ts → Leaves P t
unfolding All Leaves
leaves P (alone l) a = a.0
leaves P (prefix u d) a = leaves P d a.1
leaves P (bracket {ts} d) a = leaves P d (all_both P ts (closes ∷ []) a.1).0
leaves P (between {ls} {rs} o x y) a = let r = all_both P ls (mid o ∷ rs) a in (leaves P x r.0, leaves P y r.1.1)
leaves P (looser d) a = leaves P d a

-- ---- each name stands in the text as a word

-- a part of the text with no word across its start
abbrev Clean : List ℕ → List ℕ → Type 0
Clean before text = (ends_as_word before ≡ false) ⊎ NoWordByte text

ends_more : (xs ys : List ℕ) → 1 ≤ length ys → ends_as_word (xs ++ ys) ≡ ends_as_word ys
ends_more [] ys h = refl
ends_more (x ∷ []) [] h = absurd (omega arith)
ends_more (x ∷ []) (y ∷ ys) h = refl
ends_more (x ∷ z ∷ xs) ys h = ends_more (z ∷ xs) ys h

-- the byte before is the last one
last_byte : (xs ys : List ℕ) (j : ℕ) → suc j ≡ length xs → is_name_byte (get_or (xs ++ ys) j 0) ≡ ends_as_word xs
last_byte [] ys j e = absurd (omega arith)
last_byte (x ∷ []) ys j e = let z : j ≡ 0 = omega arith in rw z
last_byte (x ∷ z ∷ xs) ys zero e = absurd (omega arith)
last_byte (x ∷ z ∷ xs) ys (suc j) e = last_byte (z ∷ xs) ys j (omega arith)

byte_of : (w more : List ℕ) → WordBytes w → (j : ℕ) → j < length w → is_name_byte (get_or (w ++ more) j 0) ≡ true
byte_of [] more b j h = absurd (omega arith)
byte_of (x ∷ w) more b zero h = b.0
byte_of (x ∷ w) more b (suc j) h = byte_of w more b.1 j (omega arith)

pub word_bytes : (w : List ℕ) → LetterFirst w → WordBytes w
word_bytes [] l = absurd l
word_bytes (b ∷ w) l = (letter-word b l.0, l.1)

letters-some : (w : List ℕ) → LetterFirst w → 1 ≤ length w
letters-some [] l = absurd l
letters-some (b ∷ w) l = omega arith

no-clash : (before w more : List ℕ) → LetterFirst w → Clean before (w ++ more) → ends_as_word before ≡ false
no-clash before [] more l c = absurd l
no-clash before (b ∷ w) more l (inl e) = e
no-clash before (b ∷ w) more l (inr a) = absurd (true-false (letter-word b l.0) a)

no_byte : (more : List ℕ) → NoWordByte more → is_name_byte (get_or more 0 0) ≡ false
no_byte [] a = refl
no_byte (b ∷ more) a = a

at-word : (before w more : List ℕ) → LetterFirst w → Clean before (w ++ more) → NoWordByte more → WordAt (before ++ (w ++ more)) (length before) (length before + length w)
at-word before w more l c a =
    let text = before ++ (w ++ more) in
    let n = letters-some w l in
    let le = length-append before (w ++ more) in
    let lw = length-append w more in
    record {
      some = omega arith;
      within = omega arith;
      bytes = λ j g h.
          let z : j ≡ length before + (j - length before) = omega arith in
          let q : get_or text j 0 ≡ get_or (w ++ more) (j - length before) 0 = ap (λ (k : ℕ). get_or text k 0) z ∙ get_or-append-add before (w ++ more) (j - length before) 0 in
          rw q (byte_of w more (word_bytes w l) (j - length before) (omega arith));
      begins = λ j e. last_byte before (w ++ more) j e ∙ no-clash before w more l c;
      ends =
          let q : get_or text (length before + length w) 0 ≡ get_or more 0 0 =
          get_or-append-add before (w ++ more) (length w) 0 ∙ ap (λ (k : ℕ). get_or (w ++ more) k 0) (omega arith) ∙ get_or-append-add w more 0 0 in
          rw q (no_byte more a);
    }

module _ (file : List ℕ) where
  -- a name that is one of the names
  abbrev Listed : Atom → Type 0
  Listed (name w) = Memᴰ w (names_in file)
  Listed (constant b) = Unit

  known-word : {text : List ℕ} → AllKnown file text → {k e : ℕ} (w : List ℕ) → WordAt text k e → take (e - k) (drop k text) ≡ w → Name w → Memᴰ w (names_in file)
  known-word {text} known {k} {e} w at q n = by-found (find_from 0 w (names_in file)) (found-is w (names_in file) 0)
    where
      by-found : (f : Option ℕ) → FoundIs w (names_in file) 0 f → Memᴰ w (names_in file)
      by-found (Some i) h = h.3
      by-found None h = absurd (known k (record { end = e; word = at; free = rw q n.free; new = rw q h }))

  -- ---- token by token

  unary-some : (u : Unary) → 1 ≤ length (unary_token u)
  unary-some negation = omega arith
  unary-some weak_next = omega arith
  unary-some strong_next = omega arith
  unary-some finally = omega arith
  unary-some globally = omega arith

  binary-some : (o : Binary) → 1 ≤ length (binary_token o)
  binary-some or = omega arith
  binary-some and = omega arith
  binary-some until = omega arith
  binary-some release = omega arith
  binary-some implies = omega arith
  binary-some equiv = omega arith

  after-token : (before text : List ℕ) (t : Token) → GoodToken t → (is_word t ≡ true → NoWordByte text) → Clean (before ++ spell t) text
  after-token before text (pre u) g a = by-test (ends_as_word (unary_token u)) refl
    where
      by-test : (b : Bool) → ends_as_word (unary_token u) ≡ b → Clean (before ++ unary_token u) text
      by-test true e = inr (a e)
      by-test false e = inl (ends_more before (unary_token u) (unary-some u) ∙ e)
  after-token before text (mid o) g a = by-test (ends_as_word (binary_token o)) refl
    where
      by-test : (b : Bool) → ends_as_word (binary_token o) ≡ b → Clean (before ++ binary_token o) text
      by-test true e = inr (a e)
      by-test false e = inl (ends_more before (binary_token o) (binary-some o) ∙ e)
  after-token before text (atom l) g a = inr (a refl)
  after-token before text opens g a = inl (ends_more before (40 ∷ []) (omega arith))
  after-token before text closes g a = inl (ends_more before (41 ∷ []) (omega arith))

  at-token : (before text : List ℕ) (t : Token) → GoodToken t → (is_word t ≡ true → NoWordByte text) → Clean before (spell t ++ text) → AllKnown file (before ++ (spell t ++ text)) → AtomHolds Listed t
  at-token before text (pre u) g a c known = tt
  at-token before text (mid o) g a c known = tt
  at-token before text (atom (name w)) g a c known =
      let m : (length before + length w) - length before ≡ length w = omega arith in
      let q : take ((length before + length w) - length before) (drop (length before) (before ++ (w ++ text))) ≡ w =
      rw (m, drop_at before (w ++ text) (length before) refl) (take_at w text (length w) refl) in
      known-word known w (at-word before w text (letter-first w g) c (a refl)) q g
  at-token before text (atom (constant b)) g a c known = tt
  at-token before text opens g a c known = tt
  at-token before text closes g a c known = tt

  spelled : {ts : List Token} {text : List ℕ} → SpelledBy ts text → (before : List ℕ) → Clean before text → AllKnown file (before ++ text) → All Listed ts
  unfolding All
  spelled end before c known = tt
  spelled (gap {ts} {text} s) before c known =
      let e : (before ++ (32 ∷ [])) ++ text ≡ before ++ (32 ∷ text) = append_assoc before (32 ∷ []) text in
      spelled s (before ++ (32 ∷ [])) (inl (ends_more before (32 ∷ []) (omega arith))) (rw e known)
  spelled (token {ts} {text} t g a s) before c known =
      let e : (before ++ spell t) ++ text ≡ before ++ (spell t ++ text) = append_assoc before (spell t) text in
      (at-token before text t g a c known, spelled s (before ++ spell t) (after-token before text t g a) (rw e known))

  pub all_listed : {text : List ℕ} {t : Typed} → Reads text t → AllKnown file text → Leaves Listed t
  all_listed r known = leaves Listed r.derived (spelled r.spelt [] (inl refl) known)

-- ---- the formula

abbrev leaf_of : List (List ℕ) → Atom → Leaf
leaf_of names (name w) = proposition (name_number (find_from 0 w names))
leaf_of names (constant b) = formula.constant b

pub resolved : List (List ℕ) → Typed → Formula
resolved names (leaf l) = leaf (leaf_of names l)
resolved names (unary u t) = unary u (resolved names t)
resolved names (binary o l r) = binary o (resolved names l) (resolved names r)

pub resolved-size : (names : List (List ℕ)) (t : Typed) → size (resolved names t) ≡ size t
unfolding resolved
resolved-size names (leaf l) = refl
resolved-size names (unary u t) = ap (λ (n : ℕ). 1 + n) (resolved-size names t)
resolved-size names (binary o l r) = ap₂ (λ m n. 1 + m + n) (resolved-size names l) (resolved-size names r)

module _ (file : List ℕ) where
  pub resolved-typed : (t : Typed) → Leaves (Listed file) t → typed (names_in file) (resolved (names_in file) t) ≡ t
  unfolding resolved typed Leaves
  resolved-typed (leaf (name w)) h = ap (λ (v : List ℕ). leaf (name v)) (number_at w (names_in file) h).1
  resolved-typed (leaf (constant b)) h = refl
  resolved-typed (unary u t) h = ap (λ (x : Typed). unary u x) (resolved-typed t h)
  resolved-typed (binary o l r) h = ap₂ (λ x y. binary o x y) (resolved-typed l h.0) (resolved-typed r h.1)

  pub resolved-under : (t : Typed) → Leaves (Listed file) t → Named (length (names_in file)) (resolved (names_in file) t)
  unfolding resolved Leaves
  resolved-under (leaf (name w)) h = (number_at w (names_in file) h).0
  resolved-under (leaf (constant b)) h = tt
  resolved-under (unary u t) h = resolved-under t h
  resolved-under (binary o l r) h = (resolved-under l h.0, resolved-under r h.1)

  pub resolved-nodes : (p : ℕ) (t : Typed) → nodes_of (codes_by (names_in file)) p t ≡ nodes_of codes p (resolved (names_in file) t)
  unfolding resolved nodes_of
  resolved-nodes p (leaf (name w)) = refl
  resolved-nodes p (leaf (constant true)) = refl
  resolved-nodes p (leaf (constant false)) = refl
  resolved-nodes p (unary u t) = rw (resolved-size (names_in file) t) (ap (λ (l : List Node). l ++ (node (unary_code u) (p + size t - 1) 0 (1 + size t) ∷ [])) (resolved-nodes p t))
  resolved-nodes p (binary o l r) =
      rw (resolved-size (names_in file) l, resolved-size (names_in file) r)
      (ap₂ (λ (x y : List Node). x ++ (y ++ (node (binary_code o) (p + size l - 1) (p + size l + size r - 1) (1 + size l + size r) ∷ []))) (resolved-nodes p l) (resolved-nodes (p + size l) r))
