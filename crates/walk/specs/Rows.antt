-- What an operator does to one session's word, computed position by position: the reading once more, as a test.
-- Assumes nothing.
use Rattle.std.specs.Prelude.{Bool, true, false, ◌&&◌, ◌||◌, not, cond, ℕ, zero, suc, ◌+◌, ◌-◌, ◌^◌, eqb, ltb}
use Rattle.std.specs.Bool.{beq}
use Rattle.words.specs.Word.{bit, places}
use Rattle.sequence.specs.Operators.{Unary, Binary}

-- the word of n bits whose bit i is set where f holds
unfoldable pub word_where : ℕ → (ℕ → Bool) → ℕ
word_where zero f = 0
word_where (suc n) f = word_where n f + cond (f n) (2 ^ n) 0

-- "bit i is snapshot i"
abbrev pub is_on : ℕ → ℕ → Bool
is_on x i = eqb (bit x i) 1

-- f holds at some, or at all, of the d positions from i on
unfoldable pub some_of : ℕ → ℕ → (ℕ → Bool) → Bool
some_of zero i f = false
some_of (suc d) i f = f i || some_of d (suc i) f

unfoldable pub all_of : ℕ → ℕ → (ℕ → Bool) → Bool
all_of zero i f = true
all_of (suc d) i f = f i && all_of d (suc i) f

-- at some, or at all, j, i <= j < n
abbrev pub at_some : ℕ → ℕ → (ℕ → Bool) → Bool
at_some i n f = some_of (n - i) i f

abbrev pub at_all : ℕ → ℕ → (ℕ → Bool) → Bool
at_all i n f = all_of (n - i) i f

-- each operator at a position i of a session of n snapshots, in the words of `Ltlf`
abbrev pub unary_test : Unary → ℕ → (ℕ → Bool) → ℕ → Bool
unary_test Unary.not n f i = not (f i)
unary_test Unary.weak_next n f i = not (ltb (i + 1) n) || f (i + 1)
unary_test Unary.strong_next n f i = ltb (i + 1) n && f (i + 1)
unary_test Unary.finally n f i = at_some i n f
unary_test Unary.globally n f i = at_all i n f

abbrev pub binary_test : Binary → ℕ → (ℕ → Bool) → (ℕ → Bool) → ℕ → Bool
binary_test Binary.or n f g i = f i || g i
binary_test Binary.and n f g i = f i && g i
binary_test Binary.until n f g i = at_some i n λ j. g j && at_all i j f
binary_test Binary.release n f g i = at_all i n λ j. g j || at_some i j f
binary_test Binary.implies n f g i = not (f i) || g i
binary_test Binary.equiv n f g i = beq (f i) (g i)

-- the word of an operator over words of n snapshots: a bit for each place of a formula's word
unfoldable pub unary_row : Unary → ℕ → ℕ → ℕ
unary_row op n x = word_where (places n) (unary_test op n (is_on x))

unfoldable pub binary_row : Binary → ℕ → ℕ → ℕ → ℕ
binary_row op n x y = word_where (places n) (binary_test op n (is_on x) (is_on y))

-- true holds at every position, false at none
unfoldable pub constant_row : Bool → ℕ → ℕ
constant_row b n = word_where (places n) λ i. b

-- `AcceptsAt` as a test
abbrev pub accepts_row : ℕ → Bool
accepts_row x = is_on x 0
