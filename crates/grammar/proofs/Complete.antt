-- The scan finds the tokens of every flat text.
-- Assumes nothing.
use mathlib.Core.Path.{◌≡◌, refl, sym, ap, ◌∙◌}
use mathlib.Core.Bool.{Bool, true, false, cond}
use mathlib.Core.List.{List, [], ◌∷◌, ◌++◌, append_assoc, append-nil}
use Prim.Native.Nat.{ℕ, zero, suc, ◌≤◌}
use native.Mathlib.Omega.{arith}
use borrow.Author.Tests.{lt-ltb, eq-eqb, eqb-true}
use lib.Dec.{eqb}
use lib.ListN.{length, length-append}
use Rattle.sequence.specs.Operators.{Unary, unary_token}
use Rattle.grammar.specs.Token.{Atom, name, constant, Token, pre, mid, atom, opens, closes, spell, spell_atom, is_word, GoodToken, NoWordByte, SpelledBy, end, gap, token}
use Rattle.sequence.specs.Operators.Unary.{not, weak_next, strong_next, finally, globally}
use Rattle.sequence.specs.Operators.Binary.{or, and, until, release, implies, equiv}
use Rattle.names.specs.Names.{same_bytes}
use Rattle.grammar.specs.Scan.{Kind, wordy, square, sign, kind, Class, prefixed, leafy, neither, classify, ScanState, ready, apart, after, word, rest, ScanStep, dead, go, emit}
use Rattle.grammar.specs.Scan.{on_ready, on_ready_sign, on_after, on_after_sign, on_word, on_apart, scan_step, Scan, good, bad, scan_end, behind, follow, scan}
use Rattle.grammar.specs.Passing.{scan_ahead}
use Rattle.grammar.proofs.Flat.{Phase, awaits, has, Flat, done, leaves, prefixes, opened, infixes, closed}
use Rattle.reading.proofs.Lists.{true-false}
use Rattle.grammar.proofs.Words.{WordBytes, KindIs, kind-is, kind-word, letter-word, Begun, class-name, letter-first}

pub bad-good : {k : ℕ} {ts : List Token} → bad k ≡ good ts → ⊥
bad-good e = let z : ◌≡◌ {A = ℕ} 0 1 = cc in omega arith

emit-ahead : (t : Token) (x : ScanStep) (f : ScanState → Scan) → follow (emit t x) f ≡ scan_ahead 0 (t ∷ []) (follow x f)
emit-ahead t dead f = refl
emit-ahead t (go out s) f = in-front (f s)
  where
    in-front : (x : Scan) → behind (t ∷ out) x ≡ scan_ahead 0 (t ∷ []) (behind out x)
    in-front (good us) = refl
    in-front (bad k) = ap bad (omega arith)

-- ---- words

-- the next byte is no `[`
abbrev pub NoSquare : List ℕ → Type 0
NoSquare [] = Unit
NoSquare (b ∷ text) = eqb b 91 ≡ false

no-square : (d : ℕ) (text : List ℕ) {ts : List Token} → scan (ready d) text ≡ good ts → NoSquare text
unfolding scan scan_step kind
no-square d [] e = tt
no-square d (b ∷ text) {ts} e = by-test (eqb b 91) refl
  where
    by-test : (t : Bool) → eqb b 91 ≡ t → t ≡ false
    by-test true q = absurd (bad-good (rw (eqb-true b 91 q) at e))
    by-test false q = refl

module _ (w : List ℕ) (d : ℕ) where
  only_next : {c : Class} → classify w ≡ c → (c ≡ prefixed weak_next → ⊥) → same_bytes w (unary_token weak_next) ≡ false
  unfolding classify
  only_next {c} e n = by-test (same_bytes w (unary_token weak_next)) refl
    where
      by-test : (t : Bool) → same_bytes w (unary_token weak_next) ≡ t → t ≡ false
      by-test true q = let p : classify w ≡ prefixed weak_next = rw q in absurd (n (sym e ∙ p))
      by-test false q = refl

  -- a whole word, where no word goes on: a prefix operator, a leaf, or neither
  pub ended-prefix : {u : Unary} → classify w ≡ prefixed u → (text : List ℕ) → NoWordByte text → (same_bytes w (unary_token weak_next) ≡ true → NoSquare text)
      → scan (word w d) text ≡ scan_ahead 0 (pre u ∷ []) (scan (ready d) text)
  unfolding scan scan_step scan_end
  ended-prefix {u} c [] a n = rw c
  ended-prefix {u} c (b ∷ text) a n = at-kind (kind b) (kind-is b)
    where
      at-kind : (k : Kind) → KindIs b k → follow (on_word w d b k) (λ t. scan t text) ≡ scan_ahead 0 (pre u ∷ []) (follow (on_ready d b k) (λ t. scan t text))
      at-kind (wordy l) h = absurd (true-false h.0 a)
      at-kind square h = strong (same_bytes w (unary_token weak_next)) refl
        where
          strong : (x : Bool) → same_bytes w (unary_token weak_next) ≡ x → follow (cond x (go [] (rest 33 (93 ∷ []) (pre strong_next) d)) dead) (λ t. scan t text) ≡ bad 0
          strong true q = absurd (true-false (eq-eqb b 91 h.1) (n q))
          strong false q = refl
      at-kind (sign s) h = rw c (emit-ahead (pre u) (on_ready_sign d s) (λ t. scan t text))

  pub ended-leaf : {l : Atom} → classify w ≡ leafy l → (text : List ℕ) → NoWordByte text → scan (word w d) text ≡ scan_ahead 0 (atom l ∷ []) (scan (after d) text)
  unfolding scan scan_step scan_end
  ended-leaf {l} c [] a = at-depth d
    where
      at-depth : (d : ℕ) → scan_end (word w d) ≡ scan_ahead 0 (atom l ∷ []) (scan_end (after d))
      at-depth zero = rw c
      at-depth (suc d) = rw c
  ended-leaf {l} c (b ∷ text) a = at-kind (kind b) (kind-is b)
    where
      at-kind : (k : Kind) → KindIs b k → follow (on_word w d b k) (λ t. scan t text) ≡ scan_ahead 0 (atom l ∷ []) (follow (on_after d b k) (λ t. scan t text))
      at-kind (wordy l) h = absurd (true-false h.0 a)
      at-kind square h = rw (only_next c (λ q. let z : ◌≡◌ {A = ℕ} 0 1 = cc in omega arith))
      at-kind (sign s) h = rw c (emit-ahead (atom l) (on_after_sign d s) (λ t. scan t text))

  pub ended-neither : classify w ≡ neither → (text : List ℕ) → NoWordByte text → scan (word w d) text ≡ bad 0
  unfolding scan scan_step scan_end
  ended-neither c [] a = rw c
  ended-neither c (b ∷ text) a = at-kind (kind b) (kind-is b)
    where
      at-kind : (k : Kind) → KindIs b k → follow (on_word w d b k) (λ t. scan t text) ≡ bad 0
      at-kind (wordy l) h = absurd (true-false h.0 a)
      at-kind square h = rw (only_next c (λ q. let z : ◌≡◌ {A = ℕ} 0 1 = cc in omega arith))
      at-kind (sign s) h = rw c

  -- so a text with these tokens
  pub prefix-good : {u : Unary} → classify w ≡ prefixed u → (text : List ℕ) → NoWordByte text → {ts : List Token} → scan (ready d) text ≡ good ts → scan (word w d) text ≡ good (pre u ∷ ts)
  prefix-good {u} c text a e = ended-prefix c text a (λ x. no-square d text e) ∙ ap (scan_ahead 0 (pre u ∷ [])) e

  pub leaf-good : {l : Atom} → classify w ≡ leafy l → (text : List ℕ) → NoWordByte text → {ts : List Token} → scan (after d) text ≡ good ts → scan (word w d) text ≡ good (atom l ∷ ts)
  leaf-good {l} c text a e = ended-leaf c text a ∙ ap (scan_ahead 0 (atom l ∷ [])) e

module _ (d : ℕ) (text : List ℕ) {ts : List Token} where
  grow-word : (v w : List ℕ) → WordBytes w → length (v ++ w) ≤ 16 → scan (word (v ++ w) d) text ≡ good ts → scan (word v d) (w ++ text) ≡ good ts
  unfolding scan scan_step
  grow-word v [] ok h e = rw append-nil at e
  grow-word v (b ∷ w) ok h e =
      let n = length-append v (b ∷ w) in
      let g : (v ++ (b ∷ [])) ++ w ≡ v ++ (b ∷ w) = append_assoc v (b ∷ []) w in
      let i : scan (word (v ++ (b ∷ [])) d) (w ++ text) ≡ good ts = grow-word (v ++ (b ∷ [])) w ok.1 (rw g h) (rw g e) in
      rw (kind-word b ok.0, lt-ltb (length v) 16 (omega arith), i)

  pub read_word : (w : List ℕ) → Begun w → scan (word w d) text ≡ good ts → scan (ready d) (w ++ text) ≡ good ts
  unfolding scan scan_step
  read_word [] ok e = absurd ok.letters
  read_word (b ∷ w) ok e =
      let l = ok.letters in
      let i = grow-word (b ∷ []) w l.1 ok.short e in
      rw (kind-word b (letter-word b l.0), l.0, i)

-- after `U` and `R`
pub read-apart : (d : ℕ) (text : List ℕ) → NoWordByte text → scan (apart d) text ≡ scan (ready d) text
unfolding scan scan_step scan_end
read-apart d [] a = refl
read-apart d (b ∷ text) a = at-kind (kind b) (kind-is b)
  where
    at-kind : (k : Kind) → KindIs b k → follow (on_apart d k) (λ t. scan t text) ≡ follow (on_ready d b k) (λ t. scan t text)
    at-kind (wordy l) h = absurd (true-false h.0 a)
    at-kind square h = refl
    at-kind (sign s) h = refl

-- ---- tokens of several bytes

pub read-rest : (d : ℕ) (c : ℕ) (cs : List ℕ) (t : Token) (text : List ℕ) {ts : List Token} → scan (ready d) text ≡ good ts → scan (rest c cs t d) (c ∷ (cs ++ text)) ≡ good (t ∷ ts)
unfolding scan scan_step
read-rest d c [] t text e = rw (eq-eqb c c refl, e)
read-rest d c (b ∷ cs) t text e = rw (eq-eqb c c refl, read-rest d b cs t text e)

-- ---- whole texts

abbrev pub at : Phase → ℕ → ScanState
at awaits d = ready d
at has d = after d

module _ {ts : List Token} (text : List ℕ) (ih : (p : Phase) (d : ℕ) → Flat p d ts → scan (at p d) text ≡ good ts) where
  read-token : (t : Token) → GoodToken t → (is_word t ≡ true → NoWordByte text) → {p : Phase} {d : ℕ} → Flat p d (t ∷ ts) → scan (at p d) (spell t ++ text) ≡ good (t ∷ ts)
  unfolding scan scan_step kind classify
  read-token (pre not) g a {d = d} (prefixes u f) = rw (ih awaits d f)
  read-token (pre weak_next) g a {d = d} (prefixes u f) = read_word d text (unary_token weak_next) (record { letters = (refl, tt); short = omega arith })
      (prefix-good (unary_token weak_next) d refl text (a refl) (ih awaits d f))
  read-token (pre strong_next) g a {d = d} (prefixes u f) = rw (read-rest d 33 (93 ∷ []) (pre strong_next) text (ih awaits d f))
  read-token (pre finally) g a {d = d} (prefixes u f) = read_word d text (unary_token finally) (record { letters = (refl, tt); short = omega arith })
      (prefix-good (unary_token finally) d refl text (a refl) (ih awaits d f))
  read-token (pre globally) g a {d = d} (prefixes u f) = read_word d text (unary_token globally) (record { letters = (refl, tt); short = omega arith })
      (prefix-good (unary_token globally) d refl text (a refl) (ih awaits d f))
  read-token (mid or) g a {d = d} (infixes o f) = rw (ih awaits d f)
  read-token (mid and) g a {d = d} (infixes o f) = rw (ih awaits d f)
  read-token (mid until) g a {d = d} (infixes o f) = rw (read-apart d text (a refl), ih awaits d f)
  read-token (mid release) g a {d = d} (infixes o f) = rw (read-apart d text (a refl), ih awaits d f)
  read-token (mid implies) g a {d = d} (infixes o f) = rw (read-rest d 62 [] (mid implies) text (ih awaits d f))
  read-token (mid equiv) g a {d = d} (infixes o f) = rw (read-rest d 45 (62 ∷ []) (mid equiv) text (ih awaits d f))
  read-token (atom (name w)) g a {d = d} (leaves l f) = read_word d text w (record { letters = letter-first w g; short = g.short }) (leaf-good w d (class-name w g.free) text (a refl) (ih has d f))
  read-token (atom (constant true)) g a {d = d} (leaves l f) = read_word d text (spell_atom (constant true))
      (record { letters = (refl, (refl, (refl, (refl, tt)))); short = omega arith })
      (leaf-good (spell_atom (constant true)) d refl text (a refl) (ih has d f))
  read-token (atom (constant false)) g a {d = d} (leaves l f) = read_word d text (spell_atom (constant false))
      (record { letters = (refl, (refl, (refl, (refl, (refl, tt))))); short = omega arith })
      (leaf-good (spell_atom (constant false)) d refl text (a refl) (ih has d f))
  read-token opens g a {d = d} (opened f) = rw (ih awaits (suc d) f)
  read-token closes g a (closed {d} f) = rw (ih has d f)

pub complete : {ts : List Token} {text : List ℕ} → SpelledBy ts text → {p : Phase} {d : ℕ} → Flat p d ts → scan (at p d) text ≡ good ts
unfolding scan scan_step kind scan_end
complete end done = refl
complete (gap s) {p = awaits} f = rw (complete s f)
complete (gap s) {p = has} f = rw (complete s f)
complete (token {text} t g a s) f = read-token text (λ p d h. complete s h) t g a f
