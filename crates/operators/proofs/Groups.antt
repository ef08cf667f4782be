-- A row's group says which operator has its code, and whether it is the group that is asked for.
-- Assumes nothing.
use mathlib.Core.Path.{◌≡◌}
use mathlib.Core.Bool.{Bool, true, false, not}
use Prim.Native.Nat.{ℕ}
use native.Mathlib.Omega.{arith}
use Rattle.operators.specs.declared.Operator.{Operator}
use Rattle.operators.specs.declared.Group.TheVariants.{Unary, Binary, Neither}
use Rattle.sequence.specs.Operators as ops
use Rattle.sequence.specs.Sequence.{not_unary, not_binary}
use Rattle.operators.specs.Table.{Listed, unary, binary, neither, GroupIs, off_group}
use mathlib.Core.List.{[], ◌∷◌}
use Rattle.rules.specs.Answers.{Tested}
use Rattle.rules.specs.Refusals.{Decided}
use Rattle.rules.proofs.Refusals.{decided-given, decided-not}
use Rattle.sequence.proofs.Groups.{unary-below, binary-between}

module _ (code : ℕ) (r : Operator) where
  pub in-unary : Listed code r → r.group ≡ Unary → (op : ops.Unary) × (ops.unary_code op ≡ code)
  in-unary (unary op e q) g = (op, e)
  in-unary (binary op e q) g = let z : ◌≡◌ {A = ℕ} 0 1 = cc in absurd (omega arith)
  in-unary (neither m n q) g = let z : ◌≡◌ {A = ℕ} 0 1 = cc in absurd (omega arith)

  pub in-binary : Listed code r → r.group ≡ Binary → (op : ops.Binary) × (ops.binary_code op ≡ code)
  in-binary (binary op e q) g = (op, e)
  in-binary (unary op e q) g = let z : ◌≡◌ {A = ℕ} 0 1 = cc in absurd (omega arith)
  in-binary (neither m n q) g = let z : ◌≡◌ {A = ℕ} 0 1 = cc in absurd (omega arith)

  pub in-neither : Listed code r → r.group ≡ Neither → ((op : ops.Unary) → ops.unary_code op ≡ code → ⊥) × ((op : ops.Binary) → ops.binary_code op ≡ code → ⊥)
  in-neither (neither m n q) g = (m, n)
  in-neither (unary op e q) g = let z : ◌≡◌ {A = ℕ} 0 1 = cc in absurd (omega arith)
  in-neither (binary op e q) g = let z : ◌≡◌ {A = ℕ} 0 1 = cc in absurd (omega arith)

-- ---- the group that is asked for

pub group-unary : (u : Bool) (c : ℕ) (op : ops.Unary) → ops.unary_code op ≡ c → Tested (GroupIs u c) u
group-unary true c op e = (op, e)
group-unary false c op e = λ w. omega (arith, unary-below op, e, (binary-between w.0).0, w.1)

pub group-binary : (u : Bool) (c : ℕ) (op : ops.Binary) → ops.binary_code op ≡ c → Tested (GroupIs u c) (not u)
group-binary true c op e = λ w. omega (arith, unary-below w.0, w.1, (binary-between op).0, e)
group-binary false c op e = (op, e)

pub group-neither : (u : Bool) (c : ℕ) → ((op : ops.Unary) → ops.unary_code op ≡ c → ⊥) → ((op : ops.Binary) → ops.binary_code op ≡ c → ⊥) → GroupIs u c → ⊥
group-neither true c a b w = a w.0 w.1
group-neither false c a b w = b w.0 w.1

-- and what a code that is not of it is refused with
pub group-passes : (u : Bool) (c : ℕ) → GroupIs u c → Decided (off_group u c ∷ []) 0
group-passes true c w = decided-not (not_unary c) (λ h. h w.0 w.1)
group-passes false c w = decided-not (not_binary c) (λ h. h w.0 w.1)

pub group-refused : (u : Bool) (c : ℕ) → (GroupIs u c → ⊥) → Decided (off_group u c ∷ []) 7
group-refused true c n = decided-given (not_unary c) (λ op e. n (op, e))
group-refused false c n = decided-given (not_binary c) (λ op e. n (op, e))
