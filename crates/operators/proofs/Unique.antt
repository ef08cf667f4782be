-- Uniqueness: a code has one row. For `apply_unary` and `apply_binary` that is `unary-unique` and `binary-unique` of sequence.
-- Assumes nothing.
use mathlib.Core.Path.{◌≡◌, sym, ap, ◌∙◌}
use Prim.Native.Nat.{ℕ}
use native.Mathlib.Omega.{arith}
use Rattle.operators.specs.declared.Operator.{Operator}
use Rattle.operators.specs.Table.{Listed, unary, binary, neither, unary_listed, binary_listed}
use Rattle.sequence.proofs.Groups.{unary-below, binary-between}
use Rattle.sequence.proofs.Unique.{unary-one, binary-one}

pub listed-unique : (code : ℕ) (r s : Operator) → Listed code r → Listed code s → r ≡ s
listed-unique code r s (unary a e p) (unary b d q) = p ∙ ap unary_listed (unary-one a b (e ∙ sym d)) ∙ sym q
listed-unique code r s (binary a e p) (binary b d q) = p ∙ ap binary_listed (binary-one a b (e ∙ sym d)) ∙ sym q
listed-unique code r s (neither m n p) (neither k l q) = p ∙ sym q
listed-unique code r s (unary a e p) (binary b d q) = let t = binary-between b in absurd (omega (arith, unary-below a))
listed-unique code r s (binary a e p) (unary b d q) = let t = binary-between a in absurd (omega (arith, unary-below b))
listed-unique code r s (unary a e p) (neither m n q) = absurd (m a e)
listed-unique code r s (binary a e p) (neither m n q) = absurd (n a e)
listed-unique code r s (neither m n p) (unary b d q) = absurd (m b d)
listed-unique code r s (neither m n p) (binary b d q) = absurd (n b d)
