-- Sections of lent bytes, each after its one-byte count, and their first offending byte, by a rule that goes through the bytes from the start, item by
-- item: an item that is whole and good is passed, and the first that is not decides. The session file and the names section are made of these pieces.
-- Assumes nothing.
use Rattle.std.specs.Prelude.{Bool, false, cond, ◌&&◌, ◌||◌, ℕ, zero, suc, ◌+◌, eqb, leb, ltb, length, get_or, Result, Ok, Err}
use mathlib.Core.List.{List, [], ◌∷◌, ◌++◌, flat_map}
use Rattle.rules.specs.Answers.{Said}
use Rattle.reading.specs.declared.Read.{Read}
use Rattle.reading.specs.declared.Broken.{Broken}

-- ---- the bytes of a section

-- "each after its one-byte count"
abbrev pub section : {A : Type 0} → (A → List ℕ) → List A → List ℕ
section bytes items = length items ∷ flat_map bytes items

-- a part of one byte
abbrev pub one : ℕ → List ℕ
one b = b ∷ []

-- ---- the first offending byte

-- what is read at an offset: a part, with the offset after it, or the offset that offends
pub data Got (A : Type 0) : Type 0 where
  got : A → ℕ → Got A
  bad : ℕ → Got A

-- from a file and an offset
abbrev pub Reader : Type 0 → Type 0
Reader A = List ℕ → ℕ → Got A

-- one after another: what offends first decides
abbrev pub and_then : {A B : Type 0} → Got A → (A → ℕ → Got B) → Got B
and_then (got a next) k = k a next
and_then (bad o) k = bad o

-- as many items as `k` says, each judged with those before it
unfoldable pub each_item : {A : Type 0} → (List A → Reader A) → ℕ → List A → Reader (List A)
each_item item zero before file at = got before at
each_item item (suc k) before file at = and_then (item before file at) (λ a next. each_item item k (before ++ (a ∷ [])) file next)

-- one byte: one that fails its test offends where it stands, and if the file ends before it, "the file's length if it ends early"
unfoldable pub byte : (ℕ → Bool) → Reader ℕ
byte test file at =
    cond (ltb at (length file))
    (cond (test (get_or file at 0)) (got (get_or file at 0) (at + 1)) (bad at))
    (bad (length file))

abbrev pub within : ℕ → ℕ → ℕ → Bool
within lo hi b = leb lo b && leb b hi

-- "each after its one-byte count": a count outside its numbers offends where it stands
abbrev pub counted : {A : Type 0} → ℕ → ℕ → (List A → Reader A) → Reader (List A)
counted lo hi item file at = and_then (byte (within lo hi) file at) (λ k next. each_item item k [] file next)

-- "Nothing follows": "the first extra byte"
unfoldable pub at_end : {A : Type 0} → Got A → List ℕ → Got A
at_end g file = and_then g (λ a next. cond (eqb next (length file)) (got a next) (bad next))

-- whether one like it is in a list
abbrev pub is_in : {A : Type 0} → (A → A → Bool) → A → List A → Bool
is_in same x [] = false
is_in same x (y ∷ ys) = same x y || is_in same x ys

-- ---- answers

-- of what was read a sub-reader hands up one number
abbrev pub step_of : {A : Type 0} → (A → ℕ) → Got A → Result Read Broken
step_of value (got a next) = Ok (record { value = value a; next = next })
step_of value (bad o) = Err (record { 0 = o })

-- "8: session file or names section broken, with byte offset"; "A refusal carries only its number (8 also the offset)"
abbrev pub broken : ℕ → Said
broken o = record { number = 8; values = o ∷ [] }
