-- P1 to P10 of document 01, "Settled examples", as one list under a single claim over all of it.
-- Assumes nothing.
use Rattle.std.specs.Prelude.{List, [], ◌∷◌, ℕ, ◌-◌, ◌^◌, Ok}
use Rattle.sequence.specs.Operators.{Unary, Binary, not, weak_next, strong_next, finally, globally, until, release, implies, equiv, unary_code, binary_code}
use Rattle.sequence.specs.Sequence.{seq, UnaryAnswer, BinaryAnswer}

-- an operator, the length, its words and what it gives
pub data Example : Type 0 where
  one : (op : Unary) (n x r : ℕ) → Example
  two : (op : Binary) (n x y r : ℕ) → Example

-- the contract of `apply_unary` or `apply_binary` allows this answer, and so no other (`unary-unique`, `binary-unique`)
abbrev pub Claim : Example → Type 0
Claim (one op n x r) = UnaryAnswer (unary_code op) (seq n x) (Ok (seq n r))
Claim (two op n x y r) = BinaryAnswer (binary_code op) (seq n x) (seq n y) (Ok (seq n r))

abbrev pub All : List Example → Type 0
All [] = Unit {0}
All (e ∷ es) = Claim e × All es

unfoldable pub settled : List Example
settled =
    -- length 4. P1: `!`6 = 9. P2: `X[!]`6 = 3, `X`6 = 11. P3: `F`6 = 7, `G`6 = 0.
    one not 4 6 9 ∷ one strong_next 4 6 3 ∷ one weak_next 4 6 11 ∷ one finally 4 6 7 ∷ one globally 4 6 0
    -- P4: 3`U`4 = 7. P5: 4`R`7 = 7, 0`R`7 = 0. P6: 6`->`3 = 11, 6`<->`3 = 10.
    ∷ two until 4 3 4 7 ∷ two release 4 4 7 7 ∷ two release 4 0 7 0 ∷ two implies 4 6 3 11 ∷ two equiv 4 6 3 10
    -- P7, length 1: `X`0 = 1, `X[!]`1 = 0. "P8 becomes `!`0 = 1 and `X`0 = 1" (document 02, E4), length 0.
    ∷ one weak_next 1 0 1 ∷ one strong_next 1 1 0 ∷ one not 0 0 1 ∷ one weak_next 0 0 1
    -- P9, length 64: `!`0 = 2^64-1, `X`0 = 2^63. P10, length 64: (2^63-1)`U`2^63 = 2^64-1.
    ∷ one not 64 0 (2 ^ 64 - 1) ∷ one weak_next 64 0 (2 ^ 63) ∷ two until 64 (2 ^ 63 - 1) (2 ^ 63) (2 ^ 64 - 1) ∷ []
