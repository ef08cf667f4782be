-- Writing into lent text: what it holds afterwards and the place that is answered, whatever the room; and the decimal digits of a number.
-- Assumes nothing.
use Rattle.std.specs.Prelude.{◌≡◌, cond, List, [], ◌∷◌, ◌++◌, ℕ, zero, suc, ◌+◌, ◌-◌, ◌/◌, ◌%◌, min, ltb, length}
use Rattle.std.proofs.lemmas.List.Edits.{sets}

-- bytes written from a place on, one after the other: those that there is room for, and the place after them. (`sets` changes nothing past the end.)
pub record Wrote (old : List ℕ) (at : ℕ) (bytes : List ℕ) (new : List ℕ) (r : ℕ) : Type 0 where
  pub next : r ≡ at + min (length bytes) (length old - at)
  pub holds : new ≡ sets old at bytes

-- ---- decimal numbers

-- `0` to `9`
abbrev pub digit : ℕ → ℕ
digit d = 48 + d

-- the digits of a number, the most significant first and that one not 0 but for 0 itself; at most so many, counted from the last
unfoldable pub digits : ℕ → ℕ → List ℕ
digits zero n = []
digits (suc k) n = cond (ltb n 10) (digit n ∷ []) (digits k (n / 10) ++ (digit (n % 10) ∷ []))

-- 20 digits hold every number below 10 ^ 20, and so every one of 64 bits
abbrev pub most_digits : ℕ
most_digits = 20

abbrev pub decimal : ℕ → List ℕ
decimal n = digits most_digits n

-- a line's end: byte 10
abbrev pub newline : List ℕ
newline = 10 ∷ []
