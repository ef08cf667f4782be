-- The first offending byte of the sections of sessions and of codes, by the rule of reading's `Reading`, item by item in the order of the format.
-- Assumes nothing.
use Rattle.std.specs.Prelude.{Bool, true, false, cond, not, ◌&&◌, List, [], ◌∷◌, ℕ, ◌+◌, ◌*◌, ◌^◌, eqb, leb, ltb, length, take, drop}
use Rattle.words.specs.Word.{width}
use Rattle.sequence.specs.Operators.{Coded, unary, binary, neither, decode}
use Rattle.sections.specs.Numbers.{file_sessions}
use Rattle.reading.specs.Reading.{got, bad, Reader, and_then, each_item, byte, within, counted, is_in}

-- ---- sessions

pub record FileSession : Type 0 where
  pub mark : ℕ
  pub length : ℕ
  pub words : List ℕ

-- the number whose bytes these are, low byte first
unfoldable pub number : List ℕ → ℕ
number [] = 0
number (b ∷ bs) = b + 256 * number bs

-- "a bad word's first byte"; "A word cut off is the file ending early". No bit at or above n is set: it is below 2 ^ n.
unfoldable pub eight_bytes : ℕ → Reader ℕ
eight_bytes n file at =
    cond (leb (at + 8) (length file))
    (cond (ltb (number (take 8 (drop at file))) (2 ^ n)) (got (number (take 8 (drop at file))) (at + 8)) (bad at))
    (bad (length file))

unfoldable pub session : ℕ → Reader FileSession
session m file at =
    and_then (byte (within 0 1) file at) (λ mark a.
    and_then (byte (within 0 width) file a) (λ n b.
    and_then (each_item (λ _. eight_bytes n) m [] file b) (λ words next.
    got (record { mark = mark; length = n; words = words }) next)))

abbrev pub all_sessions : ℕ → Reader (List FileSession)
all_sessions m = counted 1 file_sessions (λ _. session m)

-- ---- codes

-- "unary 0-4, binary 5-10": the group of a code is the table's, by its one decoder
abbrev pub unary_group : Coded → Bool
unary_group (unary op) = true
unary_group (binary op) = false
unary_group neither = false

abbrev pub binary_group : Coded → Bool
binary_group (unary op) = false
binary_group (binary op) = true
binary_group neither = false

abbrev pub is_unary : ℕ → Bool
is_unary c = unary_group (decode c)

abbrev pub is_binary : ℕ → Bool
is_binary c = binary_group (decode c)

-- the group that is asked for: unary, or binary
abbrev pub group_of : Bool → ℕ → Bool
group_of true c = is_unary c
group_of false c = is_binary c

-- a code not in its group, or repeated, offends where it stands
abbrev pub code : (ℕ → Bool) → List ℕ → Reader ℕ
code group before = byte (λ c. group c && not (is_in eqb c before))

-- "a code count is never refused itself"
abbrev pub all_codes : (ℕ → Bool) → Reader (List ℕ)
all_codes group = counted 0 255 (code group)
