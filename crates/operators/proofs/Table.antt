-- The constant table: its rows, in order, are those of the codes 0 to 10; the rule holds of the table as a whole, and so at each place.
-- Assumes nothing.
use mathlib.Core.Path.{refl, sym, ◌∙◌, subst}
use mathlib.Core.List.{List, [], ◌∷◌}
use Prim.Native.Nat.{ℕ, zero, suc, ◌+◌, ◌≤◌, ◌<◌}
use native.Mathlib.Nat.{add-zero, zero-add, add-suc, suc-add, le_of_suc-le-suc, not-suc-le-zero}
use lib.Dec.{lit≤}
use lib.ListN.{length, get_or}
use Rattle.operators.specs.declared.Operator.{Operator}
use Rattle.sequence.specs.Operators as ops
use Rattle.sequence.specs.Operators.{not, weak_next, strong_next, finally, globally, or, and, until, release, implies, equiv}
use Rattle.operators.specs.Table.{Listed, unary, binary, neither, unary_listed, binary_listed}

-- the rows of a table whose first code is i
abbrev Rows : ℕ → List Operator → Type 0
Rows i [] = Unit {0}
Rows i (r ∷ rs) = Listed i r × Rows (suc i) rs

at : (d : Operator) (rs : List Operator) (i k : ℕ) → Rows i rs → k < length rs → Listed (i + k) (get_or rs k d)
at d [] i k t h = absurd (not-suc-le-zero h)
at d (r ∷ rs) i zero t h = subst (λ (m : ℕ). Listed m r) (sym (add-zero i)) t.0
at d (r ∷ rs) i (suc k) t h = subst (λ (m : ℕ). Listed m (get_or rs k d)) (suc-add i k ∙ sym (add-suc i k)) (at d rs (suc i) k t.1 (le_of_suc-le-suc h))

abbrev pub operators : List Operator
operators =
    unary_listed not ∷ unary_listed weak_next ∷ unary_listed strong_next ∷ unary_listed finally ∷ unary_listed globally ∷ binary_listed or ∷ binary_listed and ∷ binary_listed until
    ∷ binary_listed release ∷ binary_listed implies ∷ binary_listed equiv ∷ []

rows : Rows 0 operators
rows = (
  unary not refl refl,
  (
    unary weak_next refl refl,
    (
      unary strong_next refl refl,
      (
        unary finally refl refl,
        (
          unary globally refl refl,
          (
            binary or refl refl,
            (
              binary and refl refl,
              (binary until refl refl, (binary release refl refl, (binary implies refl refl, (binary equiv refl refl, tt)))),
            ),
          ),
        ),
      ),
    ),
  ),
)

pub row_at : (d : Operator) (code : ℕ) → code < 11 → Listed code (get_or operators code d)
row_at d code h = subst (λ (m : ℕ). Listed m (get_or operators code d)) (zero-add code) (at d operators 0 code rows h)

-- a token lies within the bytes that hold it
unary-fits : (op : ops.Unary) → (unary_listed op).bytes ≤ length (unary_listed op).token
unary-fits not = lit≤ tt
unary-fits weak_next = lit≤ tt
unary-fits strong_next = lit≤ tt
unary-fits finally = lit≤ tt
unary-fits globally = lit≤ tt

binary-fits : (op : ops.Binary) → (binary_listed op).bytes ≤ length (binary_listed op).token
binary-fits or = lit≤ tt
binary-fits and = lit≤ tt
binary-fits until = lit≤ tt
binary-fits release = lit≤ tt
binary-fits implies = lit≤ tt
binary-fits equiv = lit≤ tt

pub token-fits : {code : ℕ} {r : Operator} → Listed code r → r.bytes ≤ length r.token
token-fits (unary op e q) = rw q (unary-fits op)
token-fits (binary op e q) = rw q (binary-fits op)
token-fits (neither m n q) = rw q (lit≤ tt)
