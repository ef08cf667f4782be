-- What is printed can be read one way: over good names, formulas with the same text are the same formula. A leaf's text and a token have no space and no
-- bracket, so the first one ends them; what stands between brackets is read by the same law with more after it.
-- Assumes nothing.
use mathlib.Core.Path.{◌≡◌, refl, sym, ap, ◌∙◌}
use mathlib.Core.Bool.{Bool, true, false, cond, ◌||◌}
use mathlib.Core.List.Memᴰ
use mathlib.Core.List.{List, [], ◌∷◌, ◌++◌, append_assoc, head-eq_of_cons-eq, tail-eq_of_cons-eq, Memᴰ}
use Prim.Native.Nat.{ℕ, zero, suc, ◌+◌, ◌*◌, ◌<◌}
use native.Mathlib.Decide.{dec_lt}
use native.Mathlib.Nat.{lt_of_not-le}
use native.Mathlib.Omega.{arith}
use borrow.Author.Tests.{eqb-true}
use lib.Dec.{eqb}
use lib.ListN.{length, get_or, take}
use Rattle.sequence.specs.Operators.{Unary, Binary, unary_token, binary_token}
use Rattle.sequence.specs.Operators.Unary.{not, weak_next, strong_next, finally, globally}
use Rattle.sequence.specs.Operators.Binary.{or, and, until, release, implies, equiv}
use Rattle.rules.specs.Lists.{Each}
use Rattle.formula.specs.Formula.{leaf, unary, binary, Leaf, proposition, constant, Formula}
use Rattle.reading.proofs.Lists.{true-false}
use Rattle.reading.proofs.Ends.{each_at, end-sound}
use Rattle.names.specs.Names.{is_name_byte, is_letter, fits_name, GoodName, names_up_to, names_in}
use Rattle.rules.specs.Limits.{most_propositions}
use Rattle.names.proofs.NameLaws.{names-sound}
use Rattle.text.specs.Text.{text, leaf_text}
use Rattle.text.specs.Tokens.{Named}
use Rattle.text.proofs.Tokens.{constant-reserved}
use Rattle.text.specs.Promises.{ReadOneWay}

-- ---- runs without a space or a bracket

abbrev is_stop : ℕ → Bool
is_stop b = eqb b 32 || (eqb b 40 || eqb b 41)

abbrev Plain : List ℕ → Type 0
Plain [] = Unit {0}
Plain (b ∷ l) = (is_stop b ≡ false) × Plain l

-- the first space or bracket ends them both
split : (x y : List ℕ) → Plain x → Plain y → {a b : ℕ} {r s : List ℕ} → is_stop a ≡ true → is_stop b ≡ true → x ++ (a ∷ r) ≡ y ++ (b ∷ s) → (x ≡ y) × (a ≡ b) × (r ≡ s)
split [] [] p q c d e = (refl, head-eq_of_cons-eq e, tail-eq_of_cons-eq e)
split [] (y ∷ ys) p q c d e = absurd (true-false (ap is_stop (sym (head-eq_of_cons-eq e)) ∙ c) q.0)
split (x ∷ xs) [] p q c d e = absurd (true-false (ap is_stop (head-eq_of_cons-eq e) ∙ d) p.0)
split (x ∷ xs) (y ∷ ys) p q c d e =
    let t = split xs ys p.1 q.1 c d (tail-eq_of_cons-eq e) in
    let h : x ≡ y = head-eq_of_cons-eq e in
    (ap (λ (z : ℕ). z ∷ xs) h ∙ ap (λ (l : List ℕ). y ∷ l) t.0, t.1, t.2)

-- none begins with a bracket
no-bracket : (x : List ℕ) → Plain x → (a : ℕ) (r s : List ℕ) → (a ≡ 40 → ⊥) → x ++ (a ∷ r) ≡ 40 ∷ s → ⊥
no-bracket [] p a r s n e = n (head-eq_of_cons-eq e)
no-bracket (x ∷ xs) p a r s n e = true-false (ap is_stop (head-eq_of_cons-eq e)) p.0

-- ---- tokens and leaves

unary-plain : (op : Unary) → Plain (unary_token op)
unary-plain not = (refl, tt)
unary-plain weak_next = (refl, tt)
unary-plain strong_next = (refl, (refl, (refl, (refl, tt))))
unary-plain finally = (refl, tt)
unary-plain globally = (refl, tt)

binary-plain : (op : Binary) → Plain (binary_token op)
binary-plain or = (refl, tt)
binary-plain and = (refl, tt)
binary-plain until = (refl, tt)
binary-plain release = (refl, tt)
binary-plain implies = (refl, (refl, tt))
binary-plain equiv = (refl, (refl, (refl, tt)))

-- a token by its first byte and its length
key : List ℕ → ℕ
key w = get_or w 0 0 + 256 * length w

unary_of : ℕ → Unary
unary_of k = cond (eqb k 289) not (cond (eqb k 344) weak_next (cond (eqb k 1112) strong_next (cond (eqb k 326) finally globally)))

unary-back : (op : Unary) → unary_of (key (unary_token op)) ≡ op
unfolding key unary_of
unary-back not = refl
unary-back weak_next = refl
unary-back strong_next = refl
unary-back finally = refl
unary-back globally = refl

binary_of : ℕ → Binary
binary_of k = cond (eqb k 380) or (cond (eqb k 294) and (cond (eqb k 341) until (cond (eqb k 338) release (cond (eqb k 557) implies equiv))))

binary-back : (op : Binary) → binary_of (key (binary_token op)) ≡ op
unfolding key binary_of
binary-back or = refl
binary-back and = refl
binary-back until = refl
binary-back release = refl
binary-back implies = refl
binary-back equiv = refl

name-byte-plain : (b : ℕ) → is_name_byte b ≡ true → is_stop b ≡ false
name-byte-plain b e = go (eqb b 32) (eqb b 40) (eqb b 41) refl refl refl
  where
    never : (n : ℕ) → b ≡ n → is_name_byte n ≡ false → ⊥
    never n q f = true-false e (ap is_name_byte q ∙ f)

    go : (x y z : Bool) → eqb b 32 ≡ x → eqb b 40 ≡ y → eqb b 41 ≡ z → (eqb b 32 || (eqb b 40 || eqb b 41)) ≡ false
    go true y z p q r = absurd (never 32 (eqb-true b 32 p) refl)
    go false true z p q r = absurd (never 40 (eqb-true b 40 q) refl)
    go false false true p q r = absurd (never 41 (eqb-true b 41 r) refl)
    go false false false p q r = rw (p, q, r)

first_plain : (b : ℕ) → is_letter b ≡ true → is_stop b ≡ false
first_plain b e = name-byte-plain b (rw e)

letters-plain : (seen w : List ℕ) → Each (λ seen b. fits_name seen b ≡ true) seen w → Plain w
unfolding Each
letters-plain seen [] e = tt
letters-plain [] (b ∷ w) e = (first_plain b e.0, letters-plain (b ∷ []) w e.1)
letters-plain (x ∷ seen) (b ∷ w) e = (name-byte-plain b e.0, letters-plain (x ∷ (seen ++ (b ∷ []))) w e.1)

member : {A : Type 0} (d : A) (l : List A) (i j : ℕ) → i < j → j < length l → Memᴰ (get_or l i d) (take j l)
member d [] i j h k = absurd (omega arith)
member d (a ∷ l) zero zero h k = absurd (omega arith)
member d (a ∷ l) zero (suc j) h k = Memᴰ.head refl
member d (a ∷ l) (suc i) zero h k = absurd (omega arith)
member d (a ∷ l) (suc i) (suc j) h k = Memᴰ.tail (member d l i j (omega arith) (omega arith))

module _ (names : List (List ℕ)) (good : Each GoodName [] names) where
  good-at : (p : ℕ) → p < length names → GoodName (take p names) (get_or names p [])
  good-at p h = each_at GoodName [] names [] good p h

  -- no name twice
  name-once : (p q : ℕ) → p < q → q < length names → get_or names p [] ≡ get_or names q [] → ⊥
  name-once p q h k e = (good-at q k).new (Memᴰ.cast (sym e) (member [] names p q h k))

  leaf-plain : (c : Leaf) → Named (length names) (leaf c) → Plain (leaf_text names c)
  leaf-plain (proposition p) h = letters-plain [] (get_or names p []) (good-at p h).letters
  leaf-plain (constant true) h = (refl, (refl, (refl, (refl, tt))))
  leaf-plain (constant false) h = (refl, (refl, (refl, (refl, (refl, tt)))))

  no-constant : (p : ℕ) (b : Bool) → p < length names → get_or names p [] ≡ leaf_text [] (constant b) → ⊥
  no-constant p b h e = (good-at p h).free (Memᴰ.cast e (constant-reserved b))

  leaf-one : (c d : Leaf) → Named (length names) (leaf c) → Named (length names) (leaf d) → leaf_text names c ≡ leaf_text names d → c ≡ d
  leaf-one (proposition p) (proposition q) h k e =
      elim (dec_lt p q) [
        | yes l ↦ absurd (name-once p q l k e)
        | no l ↦
            elim (dec_lt q p) [
              | yes m ↦ absurd (name-once q p m h (sym e))
              | no m ↦ ap proposition (omega (arith, lt_of_not-le l, lt_of_not-le m))
            ]
      ]
  leaf-one (proposition p) (constant true) h k e = absurd (no-constant p true h e)
  leaf-one (proposition p) (constant false) h k e = absurd (no-constant p false h e)
  leaf-one (constant true) (proposition q) h k e = absurd (no-constant q true k (sym e))
  leaf-one (constant false) (proposition q) h k e = absurd (no-constant q false k (sym e))
  leaf-one (constant true) (constant true) h k e = refl
  leaf-one (constant true) (constant false) h k e = absurd (omega (arith, ap length e))
  leaf-one (constant false) (constant true) h k e = absurd (omega (arith, ap length e))
  leaf-one (constant false) (constant false) h k e = refl

  -- ---- with a bracket after it, a text ends where it ends

  unary-on : (op : Unary) (t : Formula) (r : List ℕ) → text names (unary op t) ++ (41 ∷ r) ≡ unary_token op ++ (32 ∷ 40 ∷ (text names t ++ (41 ∷ 41 ∷ r)))
  unary-on op t r = simp append_assoc

  binary-on : (op : Binary) (t u : Formula) (r : List ℕ)
      → text names (binary op t u) ++ (41 ∷ r) ≡ 40 ∷ (text names t ++ (41 ∷ 32 ∷ (binary_token op ++ (32 ∷ 40 ∷ (text names u ++ (41 ∷ 41 ∷ r))))))
  binary-on op t u r = simp append_assoc

  same : (t u : Formula) → Named (length names) t → Named (length names) u → (r s : List ℕ) → text names t ++ (41 ∷ r) ≡ text names u ++ (41 ∷ s) → (t ≡ u) × (r ≡ s)
  same (leaf c) (leaf d) h k r s e =
      let t = split (leaf_text names c) (leaf_text names d) (leaf-plain c h) (leaf-plain d k) refl refl e in
      (ap leaf (leaf-one c d h k t.0), t.2)
  same (leaf c) (unary op u) h k r s e =
      let t = split (leaf_text names c) (unary_token op) (leaf-plain c h) (unary-plain op) refl refl (e ∙ unary-on op u s) in
      let z = t.1 in
      absurd (omega arith)
  same (leaf c) (binary op u v) h k r s e = absurd (no-bracket (leaf_text names c) (leaf-plain c h) 41 r _ (λ z. omega arith) (e ∙ binary-on op u v s))
  same (unary op t) (leaf d) h k r s e =
      let w = split (unary_token op) (leaf_text names d) (unary-plain op) (leaf-plain d k) refl refl (sym (unary-on op t r) ∙ e) in
      let z = w.1 in
      absurd (omega arith)
  same (unary op t) (unary ob u) h k r s e =
      let w = split (unary_token op) (unary_token ob) (unary-plain op) (unary-plain ob) refl refl (sym (unary-on op t r) ∙ e ∙ unary-on ob u s) in
      let v = same t u h k (41 ∷ r) (41 ∷ s) (tail-eq_of_cons-eq w.2) in
      let o : op ≡ ob = sym (unary-back op) ∙ ap (λ (x : List ℕ). unary_of (key x)) w.0 ∙ unary-back ob in
      (ap (λ (x : Unary). unary x t) o ∙ ap (unary ob) v.0, tail-eq_of_cons-eq v.1)
  same (unary op t) (binary ob u v) h k r s e = absurd (no-bracket (unary_token op) (unary-plain op) 32 _ _ (λ z. omega arith) (sym (unary-on op t r) ∙ e ∙ binary-on ob u v s))
  same (binary op t u) (leaf d) h k r s e = absurd (no-bracket (leaf_text names d) (leaf-plain d k) 41 s _ (λ z. omega arith) (sym e ∙ binary-on op t u r))
  same (binary op t u) (unary ob v) h k r s e = absurd (no-bracket (unary_token ob) (unary-plain ob) 32 _ _ (λ z. omega arith) (sym (unary-on ob v s) ∙ sym e ∙ binary-on op t u r))
  same (binary op t u) (binary ob v w) h k r s e =
      let all = tail-eq_of_cons-eq (sym (binary-on op t u r) ∙ e ∙ binary-on ob v w s) in
      let x = same t v h.0 k.0 _ _ all in
      let y = split (binary_token op) (binary_token ob) (binary-plain op) (binary-plain ob) refl refl (tail-eq_of_cons-eq x.1) in
      let z = same u w h.1 k.1 (41 ∷ r) (41 ∷ s) (tail-eq_of_cons-eq y.2) in
      let o : op ≡ ob = sym (binary-back op) ∙ ap (λ (g : List ℕ). binary_of (key g)) y.0 ∙ binary-back ob in
      (ap (λ (g : Binary). binary g t u) o ∙ ap (λ (g : Formula). binary ob g u) x.0 ∙ ap (binary ob v) z.0, tail-eq_of_cons-eq z.1)

pub read-one-way : ReadOneWay
read-one-way file g t u h k e =
    let good = (names-sound file most_propositions 0 (end-sound file (names_up_to most_propositions file 0) g.1).0).fits in
    (same (names_in file) good t u h k [] [] (ap (λ (x : List ℕ). x ++ (41 ∷ [])) e)).0
