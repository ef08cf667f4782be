-- Codes and groups: the unary codes are those below 5, the binary ones those from 5 to 10.
-- Assumes nothing.
use mathlib.Core.Path.{◌≡◌}
use Prim.Native.Nat.{ℕ, ◌≤◌, ◌<◌}
use native.Mathlib.Omega.{arith}
use lib.Dec.{lit<, lit≤}
use Rattle.sequence.specs.Operators as ops
use Rattle.sequence.specs.Operators.{not, weak_next, strong_next, finally, globally, or, and, until, release, implies, equiv}

pub unary-below : (op : ops.Unary) → ops.unary_code op < 5
unary-below not = lit< tt
unary-below weak_next = lit< tt
unary-below strong_next = lit< tt
unary-below finally = lit< tt
unary-below globally = lit< tt

pub binary-between : (op : ops.Binary) → (5 ≤ ops.binary_code op) × (ops.binary_code op < 11)
binary-between or = (lit≤ tt, lit< tt)
binary-between and = (lit≤ tt, lit< tt)
binary-between until = (lit≤ tt, lit< tt)
binary-between release = (lit≤ tt, lit< tt)
binary-between implies = (lit≤ tt, lit< tt)
binary-between equiv = (lit≤ tt, lit< tt)

pub not-unary : (code : ℕ) → 5 ≤ code → (op : ops.Unary) → ops.unary_code op ≡ code → ⊥
not-unary code h op e = omega (arith, unary-below op)

pub not-binary : (code : ℕ) → (5 ≤ code → 11 ≤ code) → (op : ops.Binary) → ops.binary_code op ≡ code → ⊥
not-binary code h op e = let b = binary-between op in let l = h (omega arith) in omega arith
