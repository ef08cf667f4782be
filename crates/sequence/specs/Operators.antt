-- The eleven operators of document 01: code, token, reading and commuting mark of each.
-- Assumes nothing.
use Rattle.std.specs.Prelude.{Bool, true, false, List, [], ◌∷◌, ℕ, get_or}
use Rattle.words.specs.Ltlf.{Reading, Not, Or, And, Implies, Equiv, StrongNext, WeakNext, Finally, Globally, Until, Release}

-- "unary 0-4, binary 5-10"
pub data Unary : Type 0 where
  not : Unary
  weak_next : Unary
  strong_next : Unary
  finally : Unary
  globally : Unary

pub data Binary : Type 0 where
  or : Binary
  and : Binary
  until : Binary
  release : Binary
  implies : Binary
  equiv : Binary

-- "0 `!`, 1 `X`, 2 `X[!]`, 3 `F`, 4 `G`, 5 `|` (commutes), 6 `&` (commutes), 7 `U`, 8 `R`, 9 `->`, 10 `<->` (commutes)"
abbrev pub unary_code : Unary → ℕ
unary_code not = 0
unary_code weak_next = 1
unary_code strong_next = 2
unary_code finally = 3
unary_code globally = 4

abbrev pub binary_code : Binary → ℕ
binary_code or = 5
binary_code and = 6
binary_code until = 7
binary_code release = 8
binary_code implies = 9
binary_code equiv = 10

-- the operator and the group of a code
pub data Coded : Type 0 where
  unary : Unary → Coded
  binary : Binary → Coded
  neither : Coded

-- the operators in the order of their codes: a code is a place in this list
abbrev pub by_code : List Coded
by_code =
    unary not ∷ unary weak_next ∷ unary strong_next ∷ unary finally ∷ unary globally
    ∷ binary or ∷ binary and ∷ binary until ∷ binary release ∷ binary implies ∷ binary equiv
    ∷ []

unfoldable pub decode : ℕ → Coded
decode code = get_or by_code code neither

-- the operator of a code that is known to be of the group
abbrev pub as_unary : Coded → Unary
as_unary (unary op) = op
as_unary (binary op) = not
as_unary neither = not

abbrev pub as_binary : Coded → Binary
as_binary (unary op) = or
as_binary (binary op) = op
as_binary neither = or

abbrev pub unary_of : ℕ → Unary
unary_of code = as_unary (decode code)

abbrev pub binary_of : ℕ → Binary
binary_of code = as_binary (decode code)

-- "a constant table with token and commuting mark": the tokens' bytes, `!`, `X`, `X[!]`, `F`, `G`
abbrev pub unary_token : Unary → List ℕ
unary_token not = 33 ∷ []
unary_token weak_next = 88 ∷ []
unary_token strong_next = 88 ∷ 91 ∷ 33 ∷ 93 ∷ []
unary_token finally = 70 ∷ []
unary_token globally = 71 ∷ []

-- `|`, `&`, `U`, `R`, `->`, `<->`
abbrev pub binary_token : Binary → List ℕ
binary_token or = 124 ∷ []
binary_token and = 38 ∷ []
binary_token until = 85 ∷ []
binary_token release = 82 ∷ []
binary_token implies = 45 ∷ 62 ∷ []
binary_token equiv = 60 ∷ 45 ∷ 62 ∷ []

-- "(commutes)"
abbrev pub commutes : Binary → Bool
commutes or = true
commutes and = true
commutes until = false
commutes release = false
commutes implies = false
commutes equiv = true

-- what an operator says of a trace of length n, position by position
abbrev pub unary_reading : Unary → ℕ → Reading → Reading
unary_reading not n f = Not f
unary_reading weak_next n f = WeakNext n f
unary_reading strong_next n f = StrongNext n f
unary_reading finally n f = Finally n f
unary_reading globally n f = Globally n f

abbrev pub binary_reading : Binary → ℕ → Reading → Reading → Reading
binary_reading or n f g = Or f g
binary_reading and n f g = And f g
binary_reading until n f g = Until n f g
binary_reading release n f g = Release n f g
binary_reading implies n f g = Implies f g
binary_reading equiv n f g = Equiv f g
