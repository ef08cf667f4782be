-- What is promised of the table of operators: a statement, proved under its name in proofs/Commuting.
-- Assumes nothing.
use Rattle.std.specs.Prelude.{◌≡◌, ℕ}
use Rattle.sequence.specs.Operators.{Binary, binary_code}
use Rattle.operators.specs.declared.Operator.{Operator}
use Rattle.operators.specs.Table.{Listed}
use Rattle.operators.specs.Commuting.{Marked}

-- the rule over the whole table: whatever the row of a code, its mark is right of the binary operator with that code (marks-right)
abbrev pub MarksRight : Type 0
MarksRight = (code : ℕ) (r : Operator) → Listed code r → (op : Binary) → binary_code op ≡ code → Marked r.commutes op
