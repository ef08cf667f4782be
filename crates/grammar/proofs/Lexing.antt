-- One text has at most one token list, whether a formula or not: a lexer that knows nothing of the grammar finds it.
-- Assumes nothing.
use mathlib.Core.Path.{◌≡◌, refl, ap, ◌∙◌}
use mathlib.Core.Bool.{true, false, cond}
use mathlib.Core.List.{List, [], ◌∷◌, ◌++◌, append_assoc, append-nil}
use mathlib.Core.Option.{Option, some, none}
use Prim.Native.Nat.{ℕ}
use native.Mathlib.Omega.{arith}
use lib.Dec.{eqb}
use Rattle.grammar.specs.Token.{name, constant, Token, pre, mid, atom, opens, closes, spell, spell_atom, is_word, GoodToken, NoWordByte, SpelledBy, end, gap, token}
use Rattle.sequence.specs.Operators.Unary.{not, weak_next, strong_next, finally, globally}
use Rattle.sequence.specs.Operators.Binary.{or, and, until, release, implies, equiv}
use Rattle.sequence.specs.Operators.{unary_token, binary_token}
use Rattle.names.specs.Names.{same_bytes}
use Rattle.grammar.specs.Scan.{Sign, blank, bang, opener, closer, amp, bar, dash, less, other, Kind, wordy, square, sign, kind, Class, prefixed, leafy, neither, classify}
use Rattle.grammar.specs.Promises.{OneSpelling}
use Rattle.reading.proofs.Lists.{true-false}
use Rattle.grammar.proofs.Words.{WordBytes, LetterFirst, KindIs, kind-is, kind-word, letter-word, class-name, letter-first}

-- between tokens; inside a word; a token with these bytes still to come
data State : Type 0 where
  free : State
  word : List ℕ → State
  rest : ℕ → List ℕ → Token → State

data Step : Type 0 where
  stuck : Step
  go : List Token → State → Step

abbrev word_token : List ℕ → Class → Token
word_token w (prefixed u) = pre u
word_token w (leafy l) = atom l
word_token w neither = cond (same_bytes w (binary_token until)) (mid until) (mid release)

abbrev on_sign : Sign → Step
on_sign blank = go [] free
on_sign bang = go (pre not ∷ []) free
on_sign opener = go (opens ∷ []) free
on_sign closer = go (closes ∷ []) free
on_sign amp = go (mid and ∷ []) free
on_sign bar = go (mid or ∷ []) free
on_sign dash = go [] (rest 62 [] (mid implies))
on_sign less = go [] (rest 45 (62 ∷ []) (mid equiv))
on_sign other = stuck

abbrev emit : Token → Step → Step
emit t stuck = stuck
emit t (go ts s) = go (t ∷ ts) s

abbrev on_free : ℕ → Kind → Step
on_free b (wordy true) = go [] (word (b ∷ []))
on_free b (wordy false) = stuck
on_free b square = stuck
on_free b (sign s) = on_sign s

abbrev on_word : List ℕ → ℕ → Kind → Step
on_word w b (wordy l) = go [] (word (w ++ (b ∷ [])))
on_word w b square = cond (same_bytes w (unary_token weak_next)) (go [] (rest 33 (93 ∷ []) (pre strong_next))) stuck
on_word w b (sign s) = emit (word_token w (classify w)) (on_sign s)

abbrev coming : List ℕ → Token → Step
coming [] t = go (t ∷ []) free
coming (c ∷ cs) t = go [] (rest c cs t)

abbrev step : State → ℕ → Step
step free b = on_free b (kind b)
step (word w) b = on_word w b (kind b)
step (rest c cs t) b = cond (eqb b c) (coming cs t) stuck

abbrev finish : State → Option (List Token)
finish free = some []
finish (word w) = some (word_token w (classify w) ∷ [])
finish (rest c cs t) = none

abbrev behind : List Token → Option (List Token) → Option (List Token)
behind out none = none
behind out (some ts) = some (out ++ ts)

abbrev follow : Step → (State → Option (List Token)) → Option (List Token)
follow stuck f = none
follow (go out s) f = behind out (f s)

lex : State → List ℕ → Option (List Token)
lex s [] = finish s
lex s (b ∷ text) = follow (step s b) (λ t. lex t text)

-- ---- it finds every token list

emitted : (t : Token) (x : Step) (f : State → Option (List Token)) {ts : List Token} → follow x f ≡ some ts → follow (emit t x) f ≡ some (t ∷ ts)
emitted t stuck f e = absurd (let z : ◌≡◌ {A = ℕ} 0 1 = cc in omega arith)
emitted t (go out s) f {ts} e = in-front (f s) e
  where
    in-front : (x : Option (List Token)) → behind out x ≡ some ts → behind (t ∷ out) x ≡ some (t ∷ ts)
    in-front none e = absurd (let z : ◌≡◌ {A = ℕ} 0 1 = cc in omega arith)
    in-front (some us) e = let q : out ++ us ≡ ts = cc in ap (λ (l : List Token). some (t ∷ l)) q

ended : (w : List ℕ) (text : List ℕ) → NoWordByte text → {ts : List Token} → lex free text ≡ some ts → lex (word w) text ≡ some (word_token w (classify w) ∷ ts)
unfolding lex
ended w [] a {ts} e = let q : [] ≡ ts = cc in ap (λ (l : List Token). some (word_token w (classify w) ∷ l)) q
ended w (b ∷ text) a {ts} e = at-kind (kind b) (kind-is b) e
  where
    at-kind : (k : Kind) → KindIs b k → follow (on_free b k) (λ t. lex t text) ≡ some ts → follow (on_word w b k) (λ t. lex t text) ≡ some (word_token w (classify w) ∷ ts)
    at-kind (wordy l) h e = absurd (true-false h.0 a)
    at-kind square h e = absurd (let z : ◌≡◌ {A = ℕ} 0 1 = cc in omega arith)
    at-kind (sign s) h e = emitted (word_token w (classify w)) (on_sign s) (λ t. lex t text) e

module _ (text : List ℕ) {ts : List Token} where
  grown : (v w : List ℕ) → WordBytes w → lex (word (v ++ w)) text ≡ some ts → lex (word v) (w ++ text) ≡ some ts
  unfolding lex
  grown v [] ok e = rw append-nil at e
  grown v (b ∷ w) ok e =
      let i : lex (word (v ++ (b ∷ []))) (w ++ text) ≡ some ts = grown (v ++ (b ∷ [])) w ok.1 (rw (append_assoc v (b ∷ []) w) e) in
      rw (kind-word b ok.0, i)

  begun : (w : List ℕ) → LetterFirst w → lex (word w) text ≡ some ts → lex free (w ++ text) ≡ some ts
  unfolding lex
  begun [] l e = absurd l
  begun (b ∷ w) l e = rw (kind-word b (letter-word b l.0), l.0, grown (b ∷ []) w l.1 e)

whole : (text : List ℕ) {ts : List Token} (t : Token) (w : List ℕ) → LetterFirst w → word_token w (classify w) ≡ t → NoWordByte text → lex free text ≡ some ts → lex free (w ++ text) ≡ some (t ∷ ts)
whole text {ts} t w l c a e = begun text w l (ended w text a e ∙ ap (λ (x : Token). some (x ∷ ts)) c)

lexed : {ts : List Token} {text : List ℕ} → SpelledBy ts text → lex free text ≡ some ts
unfolding lex kind classify
lexed end = refl
lexed (gap s) = rw (lexed s)
lexed (token {ts} {text} t g a s) = by_token t g a (lexed s)
  where
    by_token : (t : Token) → GoodToken t → (is_word t ≡ true → NoWordByte text) → lex free text ≡ some ts → lex free (spell t ++ text) ≡ some (t ∷ ts)
    by_token (pre not) g a e = rw e
    by_token (pre weak_next) g a e = whole text (pre weak_next) (unary_token weak_next) (refl, tt) refl (a refl) e
    by_token (pre strong_next) g a e = rw e
    by_token (pre finally) g a e = whole text (pre finally) (unary_token finally) (refl, tt) refl (a refl) e
    by_token (pre globally) g a e = whole text (pre globally) (unary_token globally) (refl, tt) refl (a refl) e
    by_token (mid or) g a e = rw e
    by_token (mid and) g a e = rw e
    by_token (mid until) g a e = whole text (mid until) (binary_token until) (refl, tt) refl (a refl) e
    by_token (mid release) g a e = whole text (mid release) (binary_token release) (refl, tt) refl (a refl) e
    by_token (mid implies) g a e = rw e
    by_token (mid equiv) g a e = rw e
    by_token (atom (name w)) g a e = whole text (atom (name w)) w (letter-first w g) (ap (word_token w) (class-name w g.free)) (a refl) e
    by_token (atom (constant true)) g a e = whole text (atom (constant true)) (spell_atom (constant true)) (refl, (refl, (refl, (refl, tt)))) refl (a refl) e
    by_token (atom (constant false)) g a e = whole text (atom (constant false)) (spell_atom (constant false)) (refl, (refl, (refl, (refl, (refl, tt))))) refl (a refl) e
    by_token opens g a e = rw e
    by_token closes g a e = rw e

pub one-spelling : {ts us : List Token} {text : List ℕ} → OneSpelling ts us text
one-spelling s r = let p = lexed s in let q = lexed r in cc
