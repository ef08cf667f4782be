-- What the scan's tests of a byte and of a whole word say; a name's bytes, letter by letter.
-- Assumes nothing.
use mathlib.Core.Path.{◌≡◌, refl, sym, subst}
use mathlib.Core.Logic.{◌⊎◌, inl, inr}
use mathlib.Core.Bool.{Bool, true, false, cond}
use mathlib.Core.List.Memᴰ
use mathlib.Core.List.{List, [], ◌∷◌, ◌++◌, Memᴰ}
use Prim.Native.Nat.{ℕ, ◌≤◌}
use native.Mathlib.Omega.{arith}
use borrow.Author.Tests.{eqb-true}
use lib.Dec.{eqb, lit≤}
use lib.ListN.{length}
use Rattle.rules.specs.Lists.{Each}
use Rattle.reading.proofs.Lists.{not_in}
use Rattle.spelling.proofs.Same.{same_refl, same-eq}
use Rattle.names.proofs.NameLaws.{Letter}
use Rattle.text.proofs.Tokens.{unary-reserved, binary-reserved, constant-reserved}
use Rattle.grammar.specs.Token.{name, pre, spell_atom, is_word, GoodAtom}
use Rattle.sequence.specs.Operators.Unary.{weak_next, finally, globally}
use Rattle.sequence.specs.Operators.Binary.{until, release}
use Rattle.sequence.specs.Operators.{unary_token, binary_token}
use Rattle.names.specs.Names.{name_length, is_letter, is_name_byte, same_bytes}
use Rattle.names.specs.Reserved.{reserved}
use Rattle.grammar.specs.Name.{constant_text, Name}
use Rattle.grammar.specs.Scan.{Sign, blank, bang, opener, closer, amp, bar, dash, less, other, sign_of, Kind, wordy, square, sign, kind, Class, prefixed, leafy, neither, classify}

-- a test decides
test : {A : Type 0} (P : A → Type 0) (t : Bool) {a b : A} → (t ≡ true → P a) → (t ≡ false → P b) → P (cond t a b)
test P true f g = f refl
test P false f g = g refl

-- ---- a byte

abbrev pub SignIs : ℕ → Sign → Type 0
SignIs b blank = b ≡ 32
SignIs b bang = b ≡ 33
SignIs b opener = b ≡ 40
SignIs b closer = b ≡ 41
SignIs b amp = b ≡ 38
SignIs b bar = b ≡ 124
SignIs b dash = b ≡ 45
SignIs b less = b ≡ 60
SignIs b other = Unit

sign-is : (b : ℕ) → SignIs b (sign_of b)
sign-is b =
    test (SignIs b) (eqb b 32) (λ e. eqb-true b 32 e) λ _.
    test (SignIs b) (eqb b 33) (λ e. eqb-true b 33 e) λ _.
    test (SignIs b) (eqb b 40) (λ e. eqb-true b 40 e) λ _.
    test (SignIs b) (eqb b 41) (λ e. eqb-true b 41 e) λ _.
    test (SignIs b) (eqb b 38) (λ e. eqb-true b 38 e) λ _.
    test (SignIs b) (eqb b 124) (λ e. eqb-true b 124 e) λ _.
    test (SignIs b) (eqb b 45) (λ e. eqb-true b 45 e) λ _.
    test (SignIs b) (eqb b 60) (λ e. eqb-true b 60 e) λ _. tt

abbrev pub KindIs : ℕ → Kind → Type 0
KindIs b (wordy l) = (is_name_byte b ≡ true) × (is_letter b ≡ l)
KindIs b square = (is_name_byte b ≡ false) × (b ≡ 91)
KindIs b (sign s) = (is_name_byte b ≡ false) × SignIs b s

pub kind-is : (b : ℕ) → KindIs b (kind b)
unfolding kind
kind-is b =
    test (KindIs b) (is_name_byte b) (λ e. (e, refl)) λ n.
    test (KindIs b) (eqb b 91) (λ e. (n, eqb-true b 91 e)) λ _. (n, sign-is b)

pub kind-word : (b : ℕ) → is_name_byte b ≡ true → kind b ≡ wordy (is_letter b)
unfolding kind
kind-word b e = rw e

pub letter-word : (b : ℕ) → is_letter b ≡ true → is_name_byte b ≡ true
letter-word b e = rw e

-- ---- a name's bytes

abbrev pub WordBytes : List ℕ → Type 0
WordBytes [] = Unit
WordBytes (b ∷ w) = (is_name_byte b ≡ true) × WordBytes w

abbrev pub LetterFirst : List ℕ → Type 0
LetterFirst [] = ⊥
LetterFirst (b ∷ w) = (is_letter b ≡ true) × WordBytes w

bytes-each : (x : ℕ) (seen w : List ℕ) → WordBytes w → Each Letter (x ∷ seen) w
unfolding Each
bytes-each x seen [] l = tt
bytes-each x seen (b ∷ w) l = (l.0, bytes-each x (seen ++ (b ∷ [])) w l.1)

each-bytes : (x : ℕ) (seen w : List ℕ) → Each Letter (x ∷ seen) w → WordBytes w
unfolding Each
each-bytes x seen [] e = tt
each-bytes x seen (b ∷ w) e = (e.0, each-bytes x (seen ++ (b ∷ [])) w e.1)

letters-each : (w : List ℕ) → LetterFirst w → (1 ≤ length w) × Each Letter [] w
unfolding Each
letters-each [] l = absurd l
letters-each (b ∷ w) l = (omega arith, (l.0, bytes-each b [] w l.1))

pub letter-first : (w : List ℕ) → Name w → LetterFirst w
unfolding Each
letter-first [] n = absurd (let s = n.some in omega arith)
letter-first (b ∷ w) n = let l = n.letters in (l.0, each-bytes b [] w l.1)

-- ---- a whole word

same_not : (v w : List ℕ) → (v ≡ w → ⊥) → same_bytes v w ≡ false
same_not v w n = go (same_bytes v w) refl
  where
    go : (t : Bool) → same_bytes v w ≡ t → t ≡ false
    go true e = absurd (n (same-eq v w e))
    go false e = refl

-- a word so far
pub record Begun (w : List ℕ) : Type 0 where
  pub letters : LetterFirst w
  pub short : length w ≤ name_length

abbrev pub ClassIs : List ℕ → Class → Type 0
ClassIs w (prefixed u) = (unary_token u ≡ w) × (is_word (pre u) ≡ true)
ClassIs w (leafy l) = (spell_atom l ≡ w) × (Begun w → GoodAtom l)
ClassIs w neither = (w ≡ binary_token until) ⊎ (w ≡ binary_token release)

-- every reserved word is looked at: one more would have to be tried in `classify`
module _ (w : List ℕ) (x : same_bytes w (unary_token weak_next) ≡ false) (f : same_bytes w (unary_token finally) ≡ false) (g : same_bytes w (unary_token globally) ≡ false)
    (u : same_bytes w (binary_token until) ≡ false) (r : same_bytes w (binary_token release) ≡ false)
    (t : same_bytes w (constant_text true) ≡ false) (n : same_bytes w (constant_text false) ≡ false) where
  not-reserved : Memᴰ w reserved → ⊥
  unfolding reserved
  not-reserved = not_in same_bytes w (λ y p. rw (← p) (same_refl w)) reserved (rw (u, r, x, f, g, t, n))

  name-good : Begun w → Name w
  name-good b =
      let l = letters-each w b.letters in
      record { some = l.0; short = b.short; letters = l.1; free = not-reserved; new = λ m. Memᴰ.not-nil m }

pub class-is : (w : List ℕ) → ClassIs w (classify w)
unfolding classify
class-is w =
    test (ClassIs w) (same_bytes w (unary_token weak_next)) (λ e. (sym (same-eq w (unary_token weak_next) e), refl)) λ x.
    test (ClassIs w) (same_bytes w (unary_token finally)) (λ e. (sym (same-eq w (unary_token finally) e), refl)) λ f.
    test (ClassIs w) (same_bytes w (unary_token globally)) (λ e. (sym (same-eq w (unary_token globally) e), refl)) λ g.
    test (ClassIs w) (same_bytes w (binary_token until)) (λ e. inl (same-eq w (binary_token until) e)) λ u.
    test (ClassIs w) (same_bytes w (binary_token release)) (λ e. inr (same-eq w (binary_token release) e)) λ r.
    test (ClassIs w) (same_bytes w (constant_text true)) (λ e. (sym (same-eq w (constant_text true) e), λ b. tt)) λ t.
    test (ClassIs w) (same_bytes w (constant_text false)) (λ e. (sym (same-eq w (constant_text false) e), λ b. tt)) λ n. (
      refl,
      λ b. name-good w x f g u r t n b,
    )

-- a word that is not reserved is a name
module _ (w : List ℕ) (free : Memᴰ w reserved → ⊥) where
  apart : (v : List ℕ) → Memᴰ v reserved → same_bytes w v ≡ false
  apart v m = same_not w v (λ e. free (subst (λ (x : List ℕ). Memᴰ x reserved) (sym e) m))

  pub class-name : classify w ≡ leafy (name w)
  unfolding classify Each
  class-name =
      rw (
        apart (unary_token weak_next) (unary-reserved weak_next (lit≤ tt, (refl, tt))),
        apart (unary_token finally) (unary-reserved finally (lit≤ tt, (refl, tt))),
        apart (unary_token globally) (unary-reserved globally (lit≤ tt, (refl, tt))),
        apart (binary_token until) (binary-reserved until (lit≤ tt, (refl, tt))),
        apart (binary_token release) (binary-reserved release (lit≤ tt, (refl, tt))),
        apart (constant_text true) (constant-reserved true),
        apart (constant_text false) (constant-reserved false),
      )
