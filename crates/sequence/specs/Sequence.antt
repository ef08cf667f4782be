-- What the contracts say of a `CharSeq`, and the rows of the refusal table that operators give.
-- Assumes nothing.
use Rattle.std.specs.Prelude.{◌≡◌, List, [], ◌∷◌, ◌++◌, ℕ, ◌<◌, ◌≤◌, Result, Ok, Err}
use Rattle.words.specs.Ltlf.{Reading, AcceptsAt}
use Rattle.words.specs.Word.{width, At, WfComputed, places, Means}
use Rattle.sequence.specs.declared.CharSeq.{CharSeq}
use Rattle.sequence.specs.Operators.{Unary, Binary, unary_code, binary_code, unary_reading, binary_reading}
use Rattle.rules.specs.declared.refusal.Refusal.{Refusal}
use Rattle.rules.specs.Refusals.{Row, Decided, refusal_number, number_of}

-- "A sequence is a length n and a 64-bit word"
abbrev pub seq : ℕ → ℕ → CharSeq
seq n x = record { length = n; values = x }

-- "It is well formed if n is at most 64 and no bit at or above n is set", but for bit 0, which every formula's word has (document 02, E4)
abbrev pub WellFormed : CharSeq → Type 0
WellFormed s = WfComputed s.length s.values

-- "A session accepts a formula if .. the formula holds at 0."
abbrev pub SeqAccepts : CharSeq → Type 0
SeqAccepts s = AcceptsAt (At s.values)

-- r is the characteristic sequence of f at length n
pub record Denotes (n : ℕ) (f : Reading) (r : CharSeq) : Type 0 where
  pub length : r.length ≡ n
  pub means : Means n r.values f

-- ---- the rows

-- 4: "a length above 64"
abbrev pub seq_too_long : CharSeq → Row
seq_too_long s = record { number = 4; given = width < s.length }

-- 5: "a bit set at or above the length", n of them being allowed
abbrev pub bit_from : ℕ → CharSeq → Row
bit_from n s = record { number = 5; given = (i : ℕ) × (n ≤ i) × At s.values i }

-- 7: "code not in its group (unary 0-4, binary 5-10), or repeated"; at "operators (group only)"
abbrev pub not_unary : ℕ → Row
not_unary code = record { number = 7; given = ((op : Unary) → unary_code op ≡ code → ⊥) }

abbrev pub not_binary : ℕ → Row
not_binary code = record { number = 7; given = ((op : Binary) → binary_code op ≡ code → ⊥) }

-- 10: "two sequences of unequal length"
abbrev pub unequal : CharSeq → CharSeq → Row
unequal s t = record { number = 10; given = (s.length ≡ t.length → ⊥) }

-- the constructor: 4, then 5; "refusal 5 at operators allows that bit", bit 0 at length 0
abbrev pub ill_formed : CharSeq → List Row
ill_formed s = seq_too_long s ∷ bit_from (places s.length) s ∷ []

-- of what was recorded: "a proposition's word must still be 0" there
abbrev pub ill_recorded : CharSeq → List Row
ill_recorded s = seq_too_long s ∷ bit_from s.length s ∷ []

-- "at operators 7 first, then 4, 5 of the left, 4, 5 of the right, 10"
abbrev pub unary_rows : ℕ → CharSeq → List Row
unary_rows code s = not_unary code ∷ ill_formed s

abbrev pub binary_rows : ℕ → CharSeq → CharSeq → List Row
binary_rows code s t = not_binary code ∷ (ill_formed s ++ (ill_formed t ++ (unequal s t ∷ [])))

-- ---- the answers

-- 01's number of each case of an answer; 0 where it is a sequence
abbrev pub answer_number : Result CharSeq Refusal → ℕ
answer_number a = number_of a

-- and what the case carries: the sequence is as it is asked, and a refusal has only its number, which is not 0
abbrev pub AnswerCarries : (CharSeq → Type 0) → Result CharSeq Refusal → Type 0
AnswerCarries asked (Ok s) = asked s
AnswerCarries asked (Err refusal) = 0 < refusal_number refusal

-- an answer by the rows
abbrev pub Answers : List Row → (CharSeq → Type 0) → Result CharSeq Refusal → Type 0
Answers rows asked a = Decided rows (answer_number a) × AnswerCarries asked a

-- the sequence of that length and word
abbrev pub IsSeq : ℕ → ℕ → CharSeq → Type 0
IsSeq n x r = (r.length ≡ n) × (r.values ≡ x)

abbrev pub NewAnswer : ℕ → ℕ → Result CharSeq Refusal → Type 0
NewAnswer n x a = Answers (ill_formed (seq n x)) (IsSeq n x) a

abbrev pub RecordedAnswer : ℕ → ℕ → Result CharSeq Refusal → Type 0
RecordedAnswer n x a = Answers (ill_recorded (seq n x)) (IsSeq n x) a

-- the operator with that code, read on the sequence
abbrev pub UnaryRead : ℕ → CharSeq → CharSeq → Type 0
UnaryRead code s r = (op : Unary) × (unary_code op ≡ code) × Denotes s.length (unary_reading op s.length (At s.values)) r

abbrev pub UnaryAnswer : ℕ → CharSeq → Result CharSeq Refusal → Type 0
UnaryAnswer code s a = Answers (unary_rows code s) (UnaryRead code s) a

-- the operator with that code, read on two sequences
abbrev pub BinaryRead : ℕ → CharSeq → CharSeq → CharSeq → Type 0
BinaryRead code s t r = (op : Binary) × (binary_code op ≡ code) × Denotes s.length (binary_reading op s.length (At s.values) (At t.values)) r

abbrev pub BinaryAnswer : ℕ → CharSeq → CharSeq → Result CharSeq Refusal → Type 0
BinaryAnswer code s t a = Answers (binary_rows code s t) (BinaryRead code s t) a
