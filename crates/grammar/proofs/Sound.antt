-- The tokens that the scan finds are spelt by the text, and are flat.
-- Assumes nothing.
use mathlib.Core.Path.{◌≡◌, refl, ap, ap₂, ◌∙◌}
use mathlib.Core.Bool.{Bool, true, false, cond}
use mathlib.Core.List.{List, [], ◌∷◌, ◌++◌, append_assoc}
use Prim.Native.Nat.{ℕ, zero, suc, ◌<◌}
use native.Mathlib.Omega.{arith}
use borrow.Author.Tests.{ltb-true, eqb-true}
use lib.Dec.{eqb, ltb}
use lib.ListN.{length, length-append}
use Rattle.sequence.specs.Operators.Unary.{not, weak_next, strong_next}
use Rattle.sequence.specs.Operators.Binary.{or, and, until, release, implies, equiv}
use Rattle.sequence.specs.Operators.{unary_token}
use Rattle.names.specs.Names.{is_name_byte, same_bytes}
use Rattle.grammar.specs.Token.{Token, pre, mid, atom, opens, closes, spell, is_word, GoodToken, NoWordByte, SpelledBy, end, gap, token}
use Rattle.grammar.specs.Scan.{Sign, blank, bang, opener, closer, amp, bar, dash, less, other, Kind, wordy, square, sign, kind, Class, prefixed, leafy, neither, classify}
use Rattle.grammar.specs.Scan.{ScanState, ready, apart, after, word, rest, ScanStep, dead, go, emit, on_ready, on_ready_sign, on_after, on_after_sign, on_ended, on_word, on_apart, coming}
use Rattle.grammar.specs.Scan.{scan_step, Scan, good, bad, scan_end, finish_word, behind, follow, scan}
use Rattle.grammar.proofs.Flat.{awaits, has, Flat, done, leaves, prefixes, opened, infixes, closed}
use Rattle.reading.proofs.Lists.{true-false}
use Rattle.spelling.proofs.Same.{same-eq}
use Rattle.grammar.proofs.Words.{WordBytes, SignIs, KindIs, kind-is, Begun, ClassIs, class-is}
use Rattle.grammar.proofs.Complete.{bad-good}

-- what a state that takes a text's tokens says of them
pub Means : ScanState → List ℕ → List Token → Type 0
Means (ready d) text ts = SpelledBy ts text × Flat awaits d ts
Means (apart d) text ts = NoWordByte text × SpelledBy ts text × Flat awaits d ts
Means (after d) text ts = SpelledBy ts text × Flat has d ts
Means (word w d) text ts = Begun w → SpelledBy ts (w ++ text) × Flat awaits d ts
Means (rest c cs t d) text ts = (us : List Token) × (more : List ℕ) × (ts ≡ t ∷ us) × (text ≡ c ∷ (cs ++ more)) × SpelledBy us more × Flat awaits d us

of-behind : (out : List Token) (x : Scan) {ts : List Token} → behind out x ≡ good ts → (us : List Token) × (x ≡ good us) × (ts ≡ out ++ us)
of-behind out (good us) e = (us, refl, cc)
of-behind out (bad k) e = absurd (bad-good e)

of-emit : (t : Token) (x : ScanStep) (f : ScanState → Scan) {ts : List Token} → follow (emit t x) f ≡ good ts → (us : List Token) × (follow x f ≡ good us) × (ts ≡ t ∷ us)
of-emit t dead f e = absurd (bad-good e)
of-emit t (go out s) f e = let b = of-behind (t ∷ out) (f s) e in (out ++ b.0, ap (λ (x : Scan). behind out x) b.1, b.2)

grown : (w : List ℕ) (b : ℕ) → Begun w → is_name_byte b ≡ true → length w < 16 → Begun (w ++ (b ∷ []))
grown [] b g h l = absurd g.letters
grown (a ∷ w) b g h l = record { letters = (g.letters.0, all w g.letters.1); short = omega (arith, length-append w (b ∷ [])) }
  where
    all : (w : List ℕ) → WordBytes w → WordBytes (w ++ (b ∷ []))
    all [] o = (h, tt)
    all (a ∷ w) o = (o.0, all w o.1)

-- a token that is no word
pub plain : (t : Token) → GoodToken t → is_word t ≡ false → {ts : List Token} {text : List ℕ} → SpelledBy ts text → SpelledBy (t ∷ ts) (spell t ++ text)
plain t g n s = token t g (λ w. absurd (true-false w n)) s

-- the same, with the tokens and the text by equations
plain_of : (t : Token) → GoodToken t → is_word t ≡ false → {ts us : List Token} {text : List ℕ} (more : List ℕ) → ts ≡ t ∷ us → text ≡ spell t ++ more → SpelledBy us more → SpelledBy ts text
plain_of t g n more p q s = rw (p, q) (plain t g n s)

-- ---- one byte, with the text behind it

module _ (text : List ℕ) (ih : (s : ScanState) (ts : List Token) → scan s text ≡ good ts → Means s text ts) where
  abbrev Then : ScanStep → List Token → Type 0
  Then x ts = follow x (λ t. scan t text) ≡ good ts

  -- the state after a byte, and its tokens
  next : (out : List Token) (s : ScanState) {ts : List Token} → Then (go out s) ts → (us : List Token) × (ts ≡ out ++ us) × Means s text us
  next out s e = let b = of-behind out (scan s text) e in (b.0, b.2, ih s b.0 b.1)

  abbrev Ready : ℕ → ℕ → List Token → Type 0
  Ready d b ts = SpelledBy ts (b ∷ text) × Flat awaits d ts

  abbrev After : ℕ → ℕ → List Token → Type 0
  After d b ts = SpelledBy ts (b ∷ text) × Flat has d ts

  ready-sign : (d b : ℕ) (s : Sign) → SignIs b s → {ts : List Token} → Then (on_ready_sign d s) ts → Ready d b ts
  unfolding Means
  ready-sign d b blank h e = let n = next [] (ready d) e in rw (h, n.1) (gap n.2.0, n.2.1)
  ready-sign d b bang h e = let n = next (pre not ∷ []) (ready d) e in rw (h, n.1) (plain (pre not) tt refl n.2.0, prefixes not n.2.1)
  ready-sign d b opener h e = let n = next (opens ∷ []) (ready (suc d)) e in rw (h, n.1) (plain opens tt refl n.2.0, opened n.2.1)
  ready-sign d b closer h e = absurd (bad-good e)
  ready-sign d b amp h e = absurd (bad-good e)
  ready-sign d b bar h e = absurd (bad-good e)
  ready-sign d b dash h e = absurd (bad-good e)
  ready-sign d b less h e = absurd (bad-good e)
  ready-sign d b other h e = absurd (bad-good e)

  ready-kind : (d b : ℕ) (k : Kind) → KindIs b k → {ts : List Token} → Then (on_ready d b k) ts → Ready d b ts
  unfolding Means
  ready-kind d b (wordy true) h e =
      let n = next [] (word (b ∷ []) d) e in
      rw n.1 (n.2 (record { letters = (h.1, tt); short = omega arith }))
  ready-kind d b (wordy false) h e = absurd (bad-good e)
  ready-kind d b square h e = absurd (bad-good e)
  ready-kind d b (sign s) h e = ready-sign d b s h.1 e

  after-sign : (d b : ℕ) (s : Sign) → SignIs b s → {ts : List Token} → Then (on_after_sign d s) ts → After d b ts
  unfolding Means
  after-sign d b blank h e = let n = next [] (after d) e in rw (h, n.1) (gap n.2.0, n.2.1)
  after-sign d b bang h e = absurd (bad-good e)
  after-sign d b opener h e = absurd (bad-good e)
  after-sign zero b closer h e = absurd (bad-good e)
  after-sign (suc d) b closer h e = let n = next (closes ∷ []) (after d) e in rw (h, n.1) (plain closes tt refl n.2.0, closed n.2.1)
  after-sign d b amp h e = let n = next (mid and ∷ []) (ready d) e in rw (h, n.1) (plain (mid and) tt refl n.2.0, infixes and n.2.1)
  after-sign d b bar h e = let n = next (mid or ∷ []) (ready d) e in rw (h, n.1) (plain (mid or) tt refl n.2.0, infixes or n.2.1)
  after-sign d b dash h e =
      let n = next [] (rest 62 [] (mid implies) d) e in
      let r = n.2 in
      (plain_of (mid implies) tt refl r.1 (n.1 ∙ r.2) (ap₂ (λ x y. x ∷ y) h r.3) r.4, rw (n.1 ∙ r.2) (infixes implies r.5))
  after-sign d b less h e =
      let n = next [] (rest 45 (62 ∷ []) (mid equiv) d) e in
      let r = n.2 in
      (plain_of (mid equiv) tt refl r.1 (n.1 ∙ r.2) (ap₂ (λ x y. x ∷ y) h r.3) r.4, rw (n.1 ∙ r.2) (infixes equiv r.5))
  after-sign d b other h e = absurd (bad-good e)

  after-kind : (d b : ℕ) (k : Kind) → KindIs b k → {ts : List Token} → Then (on_after d b k) ts → After d b ts
  unfolding Means
  after-kind d b (wordy l) h {ts} e = letter (eqb b 85) (eqb b 82) refl refl e
    where
      letter : (p q : Bool) → eqb b 85 ≡ p → eqb b 82 ≡ q → Then (cond p (go (mid until ∷ []) (apart d)) (cond q (go (mid release ∷ []) (apart d)) dead)) ts → After d b ts
      letter true q u r e = let n = next (mid until ∷ []) (apart d) e in rw (eqb-true b 85 u, n.1) (token (mid until) tt (λ _. n.2.0) n.2.1, infixes until n.2.2)
      letter false true u r e = let n = next (mid release ∷ []) (apart d) e in rw (eqb-true b 82 r, n.1) (token (mid release) tt (λ _. n.2.0) n.2.1, infixes release n.2.2)
      letter false false u r e = absurd (bad-good e)
  after-kind d b square h e = absurd (bad-good e)
  after-kind d b (sign s) h e = after-sign d b s h.1 e

  apart-kind : (d b : ℕ) (k : Kind) → KindIs b k → {ts : List Token} → Then (on_apart d k) ts → (is_name_byte b ≡ false) × SpelledBy ts (b ∷ text) × Flat awaits d ts
  apart-kind d b (wordy l) h e = absurd (bad-good e)
  apart-kind d b square h e = absurd (bad-good e)
  apart-kind d b (sign s) h e = let r = ready-sign d b s h.1 e in (h.0, r.0, r.1)

  -- a word that has ended
  ended : (w : List ℕ) (d b : ℕ) (s : Sign) → Begun w → is_name_byte b ≡ false → SignIs b s → (c : Class) → ClassIs w c → {ts : List Token} → Then
      (on_ended c d s) ts → SpelledBy ts (w ++ (b ∷ text)) × Flat awaits d ts
  ended w d b s g a h (prefixed u) c e =
      let n = of-emit (pre u) (on_ready_sign d s) (λ t. scan t text) e in
      let r = ready-sign d b s h n.1 in
      rw (n.2, ← c.0) (token (pre u) tt (λ _. a) r.0, prefixes u r.1)
  ended w d b s g a h (leafy l) c e =
      let n = of-emit (atom l) (on_after_sign d s) (λ t. scan t text) e in
      let r = after-sign d b s h n.1 in
      rw (n.2, ← c.0) (token (atom l) (c.1 g) (λ _. a) r.0, leaves l r.1)
  ended w d b s g a h neither c e = absurd (bad-good e)

  word-kind : (w : List ℕ) (d b : ℕ) (k : Kind) → KindIs b k → {ts : List Token} → Then (on_word w d b k) ts → Begun w → SpelledBy ts (w ++ (b ∷ text)) × Flat awaits d ts
  unfolding Means
  word-kind w d b (wordy l) h {ts} e g = short (ltb (length w) 16) refl e
    where
      short : (p : Bool) → ltb (length w) 16 ≡ p → Then (cond p (go [] (word (w ++ (b ∷ [])) d)) dead) ts → SpelledBy ts (w ++ (b ∷ text)) × Flat awaits d ts
      short true q e =
          let n = next [] (word (w ++ (b ∷ [])) d) e in
          rw (n.1, ← (append_assoc w (b ∷ []) text)) (n.2 (grown w b g h.0 (ltb-true (length w) 16 q)))
      short false q e = absurd (bad-good e)
  word-kind w d b square h {ts} e g = strong (same_bytes w (unary_token weak_next)) refl e
    where
      strong : (p : Bool) → same_bytes w (unary_token weak_next) ≡ p → Then (cond p (go [] (rest 33 (93 ∷ []) (pre strong_next) d)) dead) ts → SpelledBy ts (w ++ (b ∷ text)) × Flat awaits d ts
      strong true q e =
          let n = next [] (rest 33 (93 ∷ []) (pre strong_next) d) e in
          let r = n.2 in
          let x = same-eq w (unary_token weak_next) q in
          (plain_of (pre strong_next) tt refl r.1 (n.1 ∙ r.2) (ap₂ (λ u v. u ++ v) x (ap₂ (λ u v. u ∷ v) h.1 r.3)) r.4, rw (n.1 ∙ r.2) (prefixes strong_next r.5))
      strong false q e = absurd (bad-good e)
  word-kind w d b (sign s) h e g = ended w d b s g h.0 h.1 (classify w) (class-is w) e

  rest-byte : (c : ℕ) (cs : List ℕ) (t : Token) (d b : ℕ) (p : Bool) → eqb b c ≡ p → {ts : List Token} → Then (cond p (coming cs t d) dead) ts → Means (rest c cs t d) (b ∷ text) ts
  unfolding Means
  rest-byte c [] t d b true q e =
      let n = next (t ∷ []) (ready d) e in
      (n.0, text, n.1, ap (λ (x : ℕ). x ∷ text) (eqb-true b c q), n.2.0, n.2.1)
  rest-byte c (a ∷ cs) t d b true q e =
      let n = next [] (rest a cs t d) e in
      let r = n.2 in
      (r.0, r.1, n.1 ∙ r.2, ap₂ (λ x y. x ∷ y) (eqb-true b c q) r.3, r.4, r.5)
  rest-byte c cs t d b false q e = absurd (bad-good e)

-- ---- whole texts

finish-word : (w : List ℕ) (d : ℕ) (c : Class) → ClassIs w c → {ts : List Token} → finish_word c d ≡ good ts → Begun w → SpelledBy ts (w ++ []) × Flat awaits d ts
finish-word w d (prefixed u) c e g = absurd (bad-good e)
finish-word w zero (leafy l) c {ts} e g =
    let q : ts ≡ atom l ∷ [] = cc in
    rw (q, ← c.0) (token (atom l) (c.1 g) (λ _. tt) end, leaves l done)
finish-word w (suc d) (leafy l) c e g = absurd (bad-good e)
finish-word w d neither c e g = absurd (bad-good e)

pub means : (text : List ℕ) (s : ScanState) (ts : List Token) → scan s text ≡ good ts → Means s text ts
unfolding Means scan scan_step scan_end
means [] (ready d) ts e = absurd (bad-good e)
means [] (apart d) ts e = absurd (bad-good e)
means [] (after zero) ts e = let q : ts ≡ [] = cc in rw q (end, done)
means [] (after (suc d)) ts e = absurd (bad-good e)
means [] (word w d) ts e = finish-word w d (classify w) (class-is w) e
means [] (rest c cs t d) ts e = absurd (bad-good e)
means (b ∷ text) (ready d) ts e = ready-kind text (means text) d b (kind b) (kind-is b) e
means (b ∷ text) (apart d) ts e = apart-kind text (means text) d b (kind b) (kind-is b) e
means (b ∷ text) (after d) ts e = after-kind text (means text) d b (kind b) (kind-is b) e
means (b ∷ text) (word w d) ts e = word-kind text (means text) w d b (kind b) (kind-is b) e
means (b ∷ text) (rest c cs t d) ts e = rest-byte text (means text) c cs t d b (eqb b c) refl e

pub sound : (text : List ℕ) {ts : List Token} → scan (ready 0) text ≡ good ts → SpelledBy ts text × Flat awaits 0 ts
unfolding Means
sound text {ts} e = means text (ready 0) ts e
