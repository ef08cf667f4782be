-- Refusals as a decision list: the rows of document 01's table in the order of its checks, the first that is given decides.
-- Assumes nothing.
use Rattle.std.specs.Prelude.{◌≡◌, ◌⊎◌, List, [], ◌∷◌, ℕ, zero, suc, Result, Ok, Err}
use Rattle.rules.specs.declared.refusal.Refusal.{Refusal}
use Rattle.rules.specs.declared.refusal.Refusal.TheVariants.{Numbers, Settings, Room, Length, Bit, Mark, Code, Nodes, Unequal, Large, State}

-- a row of the table: its number, and when it is given
pub record Row : Type 1 where
  pub number : ℕ
  pub given : Type 0

-- "given in no other case": k is the number of the first row that is given, and 0 where none is (no row has the number 0)
unfoldable pub Decided : List Row → ℕ → Type 0
Decided [] k = k ≡ 0
Decided (row ∷ rows) k = (row.given × (k ≡ row.number)) ⊎ ((row.given → ⊥) × Decided rows k)

-- the first of two numbers so decided, one list before the other
abbrev pub first_of : ℕ → ℕ → ℕ
first_of zero later = later
first_of (suc k) later = suc k

-- the number of each refusal in the table; those with an offset, 8, 11 and 13, stand with what reads a text
abbrev pub refusal_number : Refusal → ℕ
refusal_number Numbers = 1
refusal_number Settings = 2
refusal_number Room = 3
refusal_number Length = 4
refusal_number Bit = 5
refusal_number Mark = 6
refusal_number Code = 7
refusal_number Nodes = 9
refusal_number Unequal = 10
refusal_number Large = 12
refusal_number State = 14

-- the number of an answer: that of its refusal, and 0 where it refuses nothing
abbrev pub number_of : {A : Type 0} → Result A Refusal → ℕ
number_of (Ok a) = 0
number_of (Err refusal) = refusal_number refusal
