-- An operator's row is THE word of its reading: the tests of `Rows` hold where the readings of `Ltlf` do, and the word set by a test has
-- just those bits. The readings look only at the places of a formula's word, so children that agree there give the same.
-- Assumes nothing.
use mathlib.Core.Path.{◌≡◌, refl, sym, ap, ◌∙◌, subst, fun_ext}
use mathlib.Core.Logic.{◌↔◌, ◌⊎◌, inl, inr, ⊎_elim}
use mathlib.Core.Bool.{Bool, true, false, ◌&&◌, ◌||◌, not, cond, beq, true≢false}
use Prim.Native.Nat.{ℕ, zero, suc, ◌+◌, ◌-◌, ◌/◌, ◌%◌, ◌^◌, ◌≤◌, ◌<◌}
use native.Mathlib.Nat.{eq-or-lt_of_le}
use native.Mathlib.Omega.{arith}
use lib.Dec.{eqb, ltb}
use borrow.Author.Tests.{eqb-true, eq-eqb, ltb-true, lt-ltb}
use Rattle.words.specs.Ltlf.{Reading, Finally, Globally}
use Rattle.words.specs.Word.{width, bit, At, places, Means}
use Rattle.words.proofs.Bits.{bit-first, bit-rest, bit_high}
use Rattle.words.proofs.At.{lt-wf, means-unique}
use Rattle.sequence.specs.Operators.{Unary, Binary, unary_reading, binary_reading, commutes}
use Rattle.sequence.proofs.Agreeing.{Agree, means-agree, unary-agree, binary-agree}
use Rattle.walk.specs.Rows.{word_where, is_on, some_of, all_of, at_some, at_all, unary_test, binary_test, unary_row, binary_row, constant_row}
use Rattle.walk.specs.Promises.{UnaryRowOnly, BinaryRowOnly}

-- ---- the bits of the word that a test sets

add_low : (n a i : ℕ) → i < n → bit (a + 2 ^ n) i ≡ bit a i
add_low zero a i h = absurd (omega arith)
add_low (suc n) a zero h = simp bit-first (omega arith)
add_low (suc n) a (suc i) h =
    let e : (a + 2 ^ suc n) / 2 ≡ a / 2 + 2 ^ n = omega arith in
    bit-rest (a + 2 ^ suc n) i ∙ ap (λ (x : ℕ). bit x i) e ∙ add_low n (a / 2) i (omega arith) ∙ sym (bit-rest a i)

add-top : (n a : ℕ) → a < 2 ^ n → bit (a + 2 ^ n) n ≡ 1
add-top zero a h = bit-first (a + 1) ∙ (let e : (a + 1) % 2 ≡ 1 = omega arith in e)
add-top (suc n) a h =
    let e : (a + 2 ^ suc n) / 2 ≡ a / 2 + 2 ^ n = omega arith in
    bit-rest (a + 2 ^ suc n) n ∙ ap (λ (x : ℕ). bit x n) e ∙ add-top n (a / 2) (omega arith)

word_lt : (n : ℕ) (f : ℕ → Bool) → word_where n f < 2 ^ n
unfolding word_where
word_lt zero f = omega arith
word_lt (suc n) f = go (f n) (word_lt n f)
  where
    go : (b : Bool) → word_where n f < 2 ^ n → word_where n f + cond b (2 ^ n) 0 < 2 ^ suc n
    go true h = omega arith
    go false h = omega arith

bit_word : (n : ℕ) (f : ℕ → Bool) (i : ℕ) → i < n → bit (word_where n f) i ≡ cond (f i) 1 0
unfolding word_where
bit_word zero f i h = absurd (omega arith)
bit_word (suc n) f i h = go (f n) refl (eq-or-lt_of_le {n = i} {m = n} (omega arith)) (λ l. bit_word n f i l)
  where
    none : word_where n f + 0 ≡ word_where n f
    none = omega arith

    go : (b : Bool) → f n ≡ b → (i ≡ n) ⊎ (i < n) → (i < n → bit (word_where n f) i ≡ cond (f i) 1 0) → bit (word_where n f + cond b (2 ^ n) 0) i ≡ cond (f i) 1 0
    go true e (inl q) r = rw (q, e) (add-top n (word_where n f) (word_lt n f))
    go false e (inl q) r = rw (q, e, none) (bit_high n (word_where n f) n (word_lt n f) (omega arith))
    go true e (inr l) r = add_low n (word_where n f) i l ∙ r l
    go false e (inr l) r = ap (λ (x : ℕ). bit x i) none ∙ r l

pub word-means : {n : ℕ} (f : ℕ → Bool) → n ≤ width → Means n (word_where (places n) f) (λ i. f i ≡ true)
word-means {n} f h = record { wf = lt-wf {n = places n} (omega arith) (word_lt (places n) f); holds = λ i l. go i (f i) refl (bit_word (places n) f i l) }
  where
    go : (i : ℕ) (b : Bool) → f i ≡ b → bit (word_where (places n) f) i ≡ cond (f i) 1 0 → At (word_where (places n) f) i ↔ (f i ≡ true)
    go i true e w = (λ p. e, λ p. w ∙ ap (λ (b : Bool). cond b 1 0) e)
    go i false e w = (
      λ p. (let z : bit (word_where (places n) f) i ≡ 0 = w ∙ ap (λ (b : Bool). cond b 1 0) e in absurd (omega arith)),
      λ p. absurd (true≢false (sym p ∙ e)),
    )

-- ---- tests and readings

-- the positions at which a test holds
abbrev On : (ℕ → Bool) → Reading
On f i = f i ≡ true

not_on : (b : Bool) → (not b ≡ true) ↔ (b ≡ true → ⊥)
not_on true = (λ p q. true≢false (sym p), λ p. absurd (p refl))
not_on false = (λ p q. true≢false (sym q), λ p. refl)

or-on : (a b : Bool) → ((a || b) ≡ true) ↔ ((a ≡ true) ⊎ (b ≡ true))
or-on true b = (λ p. inl refl, λ p. refl)
or-on false b = (λ p. inr p, λ p. ⊎_elim (λ q. absurd (true≢false (sym q))) (λ q. q) p)

pub and-on : (a b : Bool) → ((a && b) ≡ true) ↔ ((a ≡ true) × (b ≡ true))
and-on true b = (λ p. (refl, p), λ p. p.1)
and-on false b = (λ p. absurd (true≢false (sym p)), λ p. p.0)

implies-on : (a b : Bool) → ((not a || b) ≡ true) ↔ (a ≡ true → b ≡ true)
implies-on true b = (λ p q. p, λ p. p refl)
implies-on false b = (λ p q. absurd (true≢false (sym q)), λ p. refl)

pub beq-on : (a b : Bool) → (beq a b ≡ true) ↔ ((a ≡ true) ↔ (b ≡ true))
beq-on true true = (λ p. (λ q. q, λ q. q), λ p. refl)
beq-on true false = (λ p. absurd (true≢false (sym p)), λ p. p.0 refl)
beq-on false true = (λ p. absurd (true≢false (sym p)), λ p. p.1 refl)
beq-on false false = (λ p. (λ q. q, λ q. q), λ p. refl)

some-on : (d i : ℕ) (f : ℕ → Bool) → (some_of d i f ≡ true) ↔ ((j : ℕ) × (i ≤ j) × (j < i + d) × On f j)
unfolding some_of
some-on zero i f = (λ p. absurd (true≢false (sym p)), λ t. absurd (omega arith))
some-on (suc d) i f = go (some-on d (suc i) f)
  where
    go : (some_of d (suc i) f ≡ true) ↔ ((j : ℕ) × (suc i ≤ j) × (j < suc i + d) × On f j)
        → ((f i || some_of d (suc i) f) ≡ true) ↔ ((j : ℕ) × (i ≤ j) × (j < i + suc d) × On f j)
    go r = (
      λ p. ⊎_elim (λ q. (i, omega arith, omega arith, q)) (λ q. let t = r.0 q in (t.0, omega arith, omega arith, t.3)) ((or-on (f i) (some_of d (suc i) f)).0 p),
      λ t. (or-on (f i) (some_of d (suc i) f)).1
          (⊎_elim (λ e. inl (subst (On f) (sym e) t.3)) (λ l. inr (r.1 (t.0, l, omega arith, t.3))) (eq-or-lt_of_le {n = i} {m = t.0} (omega arith))),
    )

all-on : (d i : ℕ) (f : ℕ → Bool) → (all_of d i f ≡ true) ↔ ((j : ℕ) → i ≤ j → j < i + d → On f j)
unfolding all_of
all-on zero i f = (λ p j l m. absurd (omega arith), λ t. refl)
all-on (suc d) i f = go (all-on d (suc i) f)
  where
    go : (all_of d (suc i) f ≡ true) ↔ ((j : ℕ) → suc i ≤ j → j < suc i + d → On f j)
        → ((f i && all_of d (suc i) f) ≡ true) ↔ ((j : ℕ) → i ≤ j → j < i + suc d → On f j)
    go r = (
      λ p j l m. let q = (and-on (f i) (all_of d (suc i) f)).0 p in
          ⊎_elim (λ e. subst (On f) e q.0) (λ h. r.0 q.1 j h (omega arith)) (eq-or-lt_of_le l),
      λ t. (and-on (f i) (all_of d (suc i) f)).1 (t i (omega arith) (omega arith), r.1 (λ j l m. t j (omega arith) (omega arith))),
    )

finally-on : (n i : ℕ) (f : ℕ → Bool) → (at_some i n f ≡ true) ↔ Finally n (On f) i
finally-on n i f = (
  λ p. let t = (some-on (n - i) i f).0 p in (t.0, t.1, omega arith, t.3),
  λ t. (some-on (n - i) i f).1 (t.0, t.1, omega arith, t.3),
)

globally-on : (n i : ℕ) (f : ℕ → Bool) → (at_all i n f ≡ true) ↔ Globally n (On f) i
globally-on n i f = (
  λ p j l m. (all-on (n - i) i f).0 p j l (omega arith),
  λ t. (all-on (n - i) i f).1 (λ j l m. t j l (omega arith)),
)

unary-on : (op : Unary) (n : ℕ) (f : ℕ → Bool) (i : ℕ) → (unary_test op n f i ≡ true) ↔ unary_reading op n (On f) i
unary-on Unary.not n f i = not_on (f i)
unary-on Unary.weak_next n f i =
    let w = implies-on (ltb (i + 1) n) (f (i + 1)) in
    (λ p l. w.0 p (lt-ltb (i + 1) n l), λ p. w.1 (λ q. p (ltb-true (i + 1) n q)))
unary-on Unary.strong_next n f i =
    let w = and-on (ltb (i + 1) n) (f (i + 1)) in
    (λ p. let q = w.0 p in (ltb-true (i + 1) n q.0, q.1), λ p. w.1 (lt-ltb (i + 1) n p.0, p.1))
unary-on Unary.finally n f i = finally-on n i f
unary-on Unary.globally n f i = globally-on n i f

binary-on : (op : Binary) (n : ℕ) (f g : ℕ → Bool) (i : ℕ) → (binary_test op n f g i ≡ true) ↔ binary_reading op n (On f) (On g) i
binary-on Binary.or n f g i = or-on (f i) (g i)
binary-on Binary.and n f g i = and-on (f i) (g i)
binary-on Binary.until n f g i =
    let w = finally-on n i (λ j. g j && at_all i j f) in (
      λ p. let t = w.0 p in
          let q = (and-on (g t.0) (at_all i t.0 f)).0 t.3 in
          (t.0, t.1, t.2, q.0, (globally-on t.0 i f).0 q.1),
      λ t. w.1 (t.0, t.1, t.2, (and-on (g t.0) (at_all i t.0 f)).1 (t.3, (globally-on t.0 i f).1 t.4)),
    )
binary-on Binary.release n f g i =
    let w = globally-on n i (λ j. g j || at_some i j f) in (
      λ p j l m. ⊎_elim inl (λ q. inr ((finally-on j i f).0 q)) ((or-on (g j) (at_some i j f)).0 (w.0 p j l m)),
      λ t. w.1 (λ j l m. (or-on (g j) (at_some i j f)).1 (⊎_elim inl (λ q. inr ((finally-on j i f).1 q)) (t j l m))),
    )
binary-on Binary.implies n f g i = implies-on (f i) (g i)
binary-on Binary.equiv n f g i = beq-on (f i) (g i)

-- ---- the rows

is-on : (x n : ℕ) → Agree n (On (is_on x)) (At x)
is-on x n i h = (eqb-true (bit x i) 1, eq-eqb (bit x i) 1)

pub unary-row-means : (op : Unary) {n : ℕ} (x : ℕ) → n ≤ width → Means n (unary_row op n x) (unary_reading op n (At x))
unfolding unary_row
unary-row-means op {n} x h =
    means-agree (means-agree (word-means (unary_test op n (is_on x)) h) (λ i l. unary-on op n (is_on x) i))
    (unary-agree op n (On (is_on x)) (At x) (is-on x n))

pub binary-row-means : (op : Binary) {n : ℕ} (x y : ℕ) → n ≤ width → Means n (binary_row op n x y) (binary_reading op n (At x) (At y))
unfolding binary_row
binary-row-means op {n} x y h =
    means-agree (means-agree (word-means (binary_test op n (is_on x) (is_on y)) h) (λ i l. binary-on op n (is_on x) (is_on y) i))
    (binary-agree op n (On (is_on x)) (At x) (On (is_on y)) (At y) (is-on x n) (is-on y n))

-- whatever word has that meaning is the row: so the operators' contracts fix the same word
pub unary-row-only : UnaryRowOnly
unary-row-only op n r x m = means-unique m (unary-row-means op x (omega (arith, m.wf.short)))

pub binary-row-only : BinaryRowOnly
binary-row-only op n r x y m = means-unique m (binary-row-means op x y (omega (arith, m.wf.short)))

pub constant-row-means : (b : Bool) {n : ℕ} → n ≤ width → Means n (constant_row b n) (λ i. b ≡ true)
unfolding constant_row
constant-row-means b h = word-means (λ i. b) h

-- ---- the commuting marks

or_comm : (a b : Bool) → (a || b) ≡ (b || a)
or_comm true true = refl
or_comm true false = refl
or_comm false true = refl
or_comm false false = refl

and_comm : (a b : Bool) → (a && b) ≡ (b && a)
and_comm true true = refl
and_comm true false = refl
and_comm false true = refl
and_comm false false = refl

beq-comm : (a b : Bool) → beq a b ≡ beq b a
beq-comm true true = refl
beq-comm true false = refl
beq-comm false true = refl
beq-comm false false = refl

pub binary-row-comm : (op : Binary) → commutes op ≡ true → (n x y : ℕ) → binary_row op n x y ≡ binary_row op n y x
unfolding binary_row
binary-row-comm Binary.or e n x y = ap (word_where (places n)) (fun_ext λ i. or_comm (is_on x i) (is_on y i))
binary-row-comm Binary.and e n x y = ap (word_where (places n)) (fun_ext λ i. and_comm (is_on x i) (is_on y i))
binary-row-comm Binary.until e n x y = absurd (true≢false (sym e))
binary-row-comm Binary.release e n x y = absurd (true≢false (sym e))
binary-row-comm Binary.implies e n x y = absurd (true≢false (sym e))
binary-row-comm Binary.equiv e n x y = ap (word_where (places n)) (fun_ext λ i. beq-comm (is_on x i) (is_on y i))
