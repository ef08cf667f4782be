-- The table's commuting mark of a code is the definition's.
-- Assumes nothing.
use mathlib.Core.Path.{◌≡◌, refl, sym, ap, ◌∙◌}
use mathlib.Core.Bool.{false, not}
use Prim.Native.Nat.{ℕ, zero, suc}
use borrow.Author.Tests.{ne_eqb}
use Rattle.operators.specs.declared.Operator.{Operator}
use Rattle.sequence.specs.Operators as ops
use Rattle.operators.specs.Table.{Listed}
use Rattle.sequence.specs.Operators.{binary_of, decode}
use Rattle.split.specs.Split.{commuting, twice}

unary-unmarked : (op : ops.Unary) → commuting (ops.unary_code op) ≡ false
unfolding commuting decode
unary-unmarked ops.Unary.not = refl
unary-unmarked ops.Unary.weak_next = refl
unary-unmarked ops.Unary.strong_next = refl
unary-unmarked ops.Unary.finally = refl
unary-unmarked ops.Unary.globally = refl

binary-marked : (op : ops.Binary) → commuting (ops.binary_code op) ≡ ops.commutes op
unfolding commuting decode
binary-marked ops.Binary.or = refl
binary-marked ops.Binary.and = refl
binary-marked ops.Binary.until = refl
binary-marked ops.Binary.release = refl
binary-marked ops.Binary.implies = refl
binary-marked ops.Binary.equiv = refl

listed-commuting : {code : ℕ} {r : Operator} → Listed code r → r.commutes ≡ commuting code
unfolding commuting
listed-commuting (Listed.unary op e q) = ap (λ (x : Operator). x.commutes) q ∙ sym (unary-unmarked op) ∙ ap commuting e
listed-commuting (Listed.binary op e q) = ap (λ (x : Operator). x.commutes) q ∙ sym (binary-marked op) ∙ ap commuting e
listed-commuting {code} (Listed.neither a b q) = ap (λ (x : Operator). x.commutes) q ∙ rw (ne_eqb (ops.binary_code (binary_of code)) code (b (binary_of code)))

pub twice-listed : {code : ℕ} {r : Operator} (i : ℕ) → (i ≡ 0 → ⊥) → Listed code r → not r.commutes ≡ twice i code
twice-listed zero h w = absurd (h refl)
twice-listed (suc i) h w = ap not (listed-commuting w)
