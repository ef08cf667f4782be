-- What the table's commuting marks say of the operators.
-- Assumes nothing.
use Rattle.std.specs.Prelude.{◌≡◌, Bool, true, false, ℕ}
use Rattle.words.specs.Word.{At, WfComputed, Means}
use Rattle.sequence.specs.Operators.{Binary, binary_reading}

-- a marked operator: on all sequences of equal length both orders give one word
abbrev pub Commutes : Binary → Type 0
Commutes op =
    (n x y a b : ℕ) → WfComputed n x → WfComputed n y → Means n a (binary_reading op n (At x) (At y)) → Means n b (binary_reading op n (At y) (At x)) → a ≡ b

-- an unmarked one: two sequences of equal length whose orders give different words
pub record Differs (op : Binary) : Type 0 where
  pub n : ℕ
  pub x : ℕ
  pub y : ℕ
  pub a : ℕ
  pub b : ℕ
  pub left : WfComputed n x
  pub right : WfComputed n y
  pub one : Means n a (binary_reading op n (At x) (At y))
  pub other : Means n b (binary_reading op n (At y) (At x))
  pub apart : a ≡ b → ⊥

abbrev pub Marked : Bool → Binary → Type 0
Marked true op = Commutes op
Marked false op = Differs op
