-- A machine over bytes that finds the tokens of a formula, or the offset of refusal 11. Precedence does not matter for what can go on, so it
-- knows only whether an operand or an infix operator is awaited, how many brackets are open, and what token has begun.
-- Assumes nothing.
use Rattle.std.specs.Prelude.{Bool, true, false, cond, List, [], ◌∷◌, ◌++◌, ℕ, zero, suc, eqb, ltb, length}
use Rattle.sequence.specs.Operators.{Unary, unary_token, binary_token}
use Rattle.grammar.specs.Token.{Atom, name, constant, Token, pre, mid, atom, opens, closes}
use Rattle.sequence.specs.Operators.Unary.{not, weak_next, strong_next, finally, globally}
use Rattle.sequence.specs.Operators.Binary.{or, and, until, release, implies, equiv}
use Rattle.names.specs.Names.{name_length, is_letter, is_name_byte, same_bytes}
use Rattle.grammar.specs.Name.{constant_text}

-- ---- bytes

pub data Sign : Type 0 where
  blank bang opener closer amp bar dash less other : Sign

-- a word's byte (a letter or not), `[`, or another
pub data Kind : Type 0 where
  wordy : Bool → Kind
  square : Kind
  sign : Sign → Kind

abbrev pub sign_of : ℕ → Sign
sign_of b =
    cond (eqb b 32) blank
    (cond (eqb b 33) bang
    (cond (eqb b 40) opener
    (cond (eqb b 41) closer
    (cond (eqb b 38) amp
    (cond (eqb b 124) bar
    (cond (eqb b 45) dash
    (cond (eqb b 60) less other)))))))

unfoldable pub kind : ℕ → Kind
kind b = cond (is_name_byte b) (wordy (is_letter b)) (cond (eqb b 91) square (sign (sign_of b)))

-- ---- whole words

pub data Class : Type 0 where
  prefixed : Unary → Class
  leafy : Atom → Class
  neither : Class

unfoldable pub classify : List ℕ → Class
classify w =
    cond (same_bytes w (unary_token weak_next)) (prefixed weak_next)
    (cond (same_bytes w (unary_token finally)) (prefixed finally)
    (cond (same_bytes w (unary_token globally)) (prefixed globally)
    (cond (same_bytes w (binary_token until)) neither
    (cond (same_bytes w (binary_token release)) neither
    (cond (same_bytes w (constant_text true)) (leafy (constant true))
    (cond (same_bytes w (constant_text false)) (leafy (constant false))
    (leafy (name w))))))))

-- ---- states, each with the number of open brackets

pub data ScanState : Type 0 where
  -- an operand is awaited
  ready : ℕ → ScanState
  -- the same, right after `U` or `R`
  apart : ℕ → ScanState
  -- an operand is there: an infix operator or a closing bracket is awaited
  after : ℕ → ScanState
  -- inside a word, where an operand is awaited
  word : List ℕ → ℕ → ScanState
  -- this byte and these must come: then the token is there
  rest : ℕ → List ℕ → Token → ℕ → ScanState

-- no formula goes on so; or these tokens are now there
pub data ScanStep : Type 0 where
  dead : ScanStep
  go : List Token → ScanState → ScanStep

abbrev pub emit : Token → ScanStep → ScanStep
emit t dead = dead
emit t (go ts s) = go (t ∷ ts) s

abbrev pub on_ready_sign : ℕ → Sign → ScanStep
on_ready_sign d blank = go [] (ready d)
on_ready_sign d bang = go (pre not ∷ []) (ready d)
on_ready_sign d opener = go (opens ∷ []) (ready (suc d))
on_ready_sign d closer = dead
on_ready_sign d amp = dead
on_ready_sign d bar = dead
on_ready_sign d dash = dead
on_ready_sign d less = dead
on_ready_sign d other = dead

abbrev pub on_ready : ℕ → ℕ → Kind → ScanStep
on_ready d b (wordy true) = go [] (word (b ∷ []) d)
on_ready d b (wordy false) = dead
on_ready d b square = dead
on_ready d b (sign s) = on_ready_sign d s

abbrev pub closing : ℕ → ScanStep
closing zero = dead
closing (suc d) = go (closes ∷ []) (after d)

abbrev pub on_after_sign : ℕ → Sign → ScanStep
on_after_sign d blank = go [] (after d)
on_after_sign d bang = dead
on_after_sign d opener = dead
on_after_sign d closer = closing d
on_after_sign d amp = go (mid and ∷ []) (ready d)
on_after_sign d bar = go (mid or ∷ []) (ready d)
on_after_sign d dash = go [] (rest 62 [] (mid implies) d)
on_after_sign d less = go [] (rest 45 (62 ∷ []) (mid equiv) d)
on_after_sign d other = dead

abbrev pub on_after : ℕ → ℕ → Kind → ScanStep
on_after d b (wordy l) = cond (eqb b 85) (go (mid until ∷ []) (apart d)) (cond (eqb b 82) (go (mid release ∷ []) (apart d)) dead)
on_after d b square = dead
on_after d b (sign s) = on_after_sign d s

abbrev pub on_ended : Class → ℕ → Sign → ScanStep
on_ended (prefixed u) d s = emit (pre u) (on_ready_sign d s)
on_ended (leafy l) d s = emit (atom l) (on_after_sign d s)
on_ended neither d s = dead

abbrev pub on_word : List ℕ → ℕ → ℕ → Kind → ScanStep
on_word w d b (wordy l) = cond (ltb (length w) name_length) (go [] (word (w ++ (b ∷ [])) d)) dead
on_word w d b square = cond (same_bytes w (unary_token weak_next)) (go [] (rest 33 (93 ∷ []) (pre strong_next) d)) dead
on_word w d b (sign s) = on_ended (classify w) d s

abbrev pub on_apart : ℕ → Kind → ScanStep
on_apart d (wordy l) = dead
on_apart d square = dead
on_apart d (sign s) = on_ready_sign d s

abbrev pub coming : List ℕ → Token → ℕ → ScanStep
coming [] t d = go (t ∷ []) (ready d)
coming (c ∷ cs) t d = go [] (rest c cs t d)

unfoldable pub scan_step : ScanState → ℕ → ScanStep
scan_step (ready d) b = on_ready d b (kind b)
scan_step (apart d) b = on_apart d (kind b)
scan_step (after d) b = on_after d b (kind b)
scan_step (word w d) b = on_word w d b (kind b)
scan_step (rest c cs t d) b = cond (eqb b c) (coming cs t d) dead

-- ---- whole texts

-- the tokens of the text, or an offset in it
pub data Scan : Type 0 where
  good : List Token → Scan
  bad : ℕ → Scan

abbrev pub finish_word : Class → ℕ → Scan
finish_word (prefixed u) d = bad 0
finish_word (leafy l) zero = good (atom l ∷ [])
finish_word (leafy l) (suc d) = bad 0
finish_word neither d = bad 0

unfoldable pub scan_end : ScanState → Scan
scan_end (ready d) = bad 0
scan_end (apart d) = bad 0
scan_end (after zero) = good []
scan_end (after (suc d)) = bad 0
scan_end (word w d) = finish_word (classify w) d
scan_end (rest c cs t d) = bad 0

abbrev pub behind : List Token → Scan → Scan
behind out (good ts) = good (out ++ ts)
behind out (bad k) = bad (suc k)

abbrev pub follow : ScanStep → (ScanState → Scan) → Scan
follow dead f = bad 0
follow (go out s) f = behind out (f s)

unfoldable pub scan : ScanState → List ℕ → Scan
scan s [] = scan_end s
scan s (b ∷ text) = follow (scan_step s b) (λ t. scan t text)

abbrev pub scan_text : List ℕ → Scan
scan_text text = scan (ready 0) text

-- some formula begins so: nothing is wrong before the text's end
abbrev pub goes_on : Scan → ℕ → Bool
goes_on (good ts) n = true
goes_on (bad k) n = eqb k n

abbrev pub alive : List ℕ → Bool
alive text = goes_on (scan_text text) (length text)
