-- The rows of the constant table of operators.
-- Assumes nothing.
use Rattle.std.specs.Prelude.{◌≡◌, Bool, true, false, List, [], ◌∷◌, ◌++◌, ℕ, length, take}
use Rattle.operators.specs.declared.Operator.{Operator}
use Rattle.operators.specs.declared.Group.TheVariants.{Unary, Binary, Neither}
use Rattle.sequence.specs.Operators as ops
use Rattle.sequence.specs.Sequence.{not_unary, not_binary}
use Rattle.rules.specs.Refusals.{Row}

-- the four bytes that hold a token: those past its length are 0
abbrev pub padded : List ℕ → List ℕ
padded t = take 4 (t ++ (0 ∷ 0 ∷ 0 ∷ 0 ∷ []))

-- "a constant table with token and commuting mark"
abbrev pub unary_listed : ops.Unary → Operator
unary_listed op = record { token = padded (ops.unary_token op); bytes = length (ops.unary_token op); group = Unary; commutes = false }

abbrev pub binary_listed : ops.Binary → Operator
binary_listed op = record { token = padded (ops.binary_token op); bytes = length (ops.binary_token op); group = Binary; commutes = ops.commutes op }

-- "Leaves: 16 proposition, 17 false, 18 true", and every other code: in no group
abbrev pub no_row : Operator
no_row = record { token = padded []; bytes = 0; group = Neither; commutes = false }

-- r is the row for a code
pub data Listed (code : ℕ) (r : Operator) : Type 0 where
  unary : (op : ops.Unary) → ops.unary_code op ≡ code → r ≡ unary_listed op → Listed code r
  binary : (op : ops.Binary) → ops.binary_code op ≡ code → r ≡ binary_listed op → Listed code r
  neither : ((op : ops.Unary) → ops.unary_code op ≡ code → ⊥) → ((op : ops.Binary) → ops.binary_code op ≡ code → ⊥) → r ≡ no_row → Listed code r

-- the code is one of the unary group, or of the binary one
abbrev pub GroupIs : Bool → ℕ → Type 0
GroupIs true c = (op : ops.Unary) × (ops.unary_code op ≡ c)
GroupIs false c = (op : ops.Binary) × (ops.binary_code op ≡ c)

-- and where it is not, a code is refused
abbrev pub off_group : Bool → ℕ → Row
off_group true c = not_unary c
off_group false c = not_binary c
