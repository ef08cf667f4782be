-- `rows_of` meets its contract: the children are there, or one is not.
use mathlib.Core.Path.{refl}
use Prim.Native.Nat.{◌*◌}
use native.Mathlib.Omega.{arith}
use Rattle.rules.specs.Limits.{most_sessions}
use Rattle.rows.proofs.Parts.{part-long}
use Rattle.leaves.proofs.Products.{at_most}
use Rattle.rows.proofs.binary.rows_of.Goals as goal

pub overflow_mul-one : goal.overflow_mul-one
overflow_mul-one c = let a = c.args in omega (arith, at_most a.left.0 65535 a.r most_sessions (omega arith) (omega arith))

pub overflow_add-one : goal.overflow_add-one
overflow_add-one c = let a = c.args in omega (arith, at_most a.left.0 65535 a.r most_sessions (omega arith) (omega arith))

pub returns-then-matrices-one : goal.returns-then-matrices-one
returns-then-matrices-one c = (λ h. omega (arith, h.0), refl)

pub overflow_mul-other : goal.overflow_mul-other
overflow_mul-other c = let a = c.args in omega (arith, at_most a.right.0 65535 a.r most_sessions (omega arith) (omega arith))

pub overflow_add-other : goal.overflow_add-other
overflow_add-other c = let a = c.args in omega (arith, at_most a.right.0 65535 a.r most_sessions (omega arith) (omega arith))

pub returns-then-matrices-other : goal.returns-then-matrices-other
returns-then-matrices-other c = (λ h. omega (arith, h.1), refl)

pub returns : goal.returns
returns c =
    let a = c.args in
    let p = c.requires in
    let l = c.if-matrices-one.false in
    let k = c.if-matrices-other.false in (
      (l, k),
      c.by_code.ensures.did record {
        masks-there = p.0.there;
        x-there = part-long a.matrices.now (a.left.0 * a.r) a.r l;
        y-there = part-long a.matrices.now (a.right.0 * a.r) a.r k;
        rows-there = p.1.there;
        operator = p.2;
      },
    )
