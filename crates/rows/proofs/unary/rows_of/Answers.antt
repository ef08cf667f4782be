-- `rows_of` meets its contract: the child is there, or it is not.
use mathlib.Core.Path.{refl}
use Prim.Native.Nat.{◌*◌}
use native.Mathlib.Omega.{arith}
use Rattle.rules.specs.Limits.{most_sessions}
use Rattle.rows.proofs.Parts.{part-long}
use Rattle.leaves.proofs.Products.{at_most}
use Rattle.rows.proofs.unary.rows_of.Goals as goal

pub overflow_mul-from : goal.overflow_mul-from
overflow_mul-from c = let a = c.args in omega (arith, at_most a.left.0 65535 a.r most_sessions (omega arith) (omega arith))

pub overflow_add-from : goal.overflow_add-from
overflow_add-from c = let a = c.args in omega (arith, at_most a.left.0 65535 a.r most_sessions (omega arith) (omega arith))

pub returns-then-matrices-from : goal.returns-then-matrices-from
returns-then-matrices-from c = (λ h. omega arith, refl)

pub returns : goal.returns
returns c =
    let a = c.args in
    let p = c.requires in
    let l = c.if-matrices-from.false in (
      l,
      c.by_code.ensures.did record {
        masks-there = p.0.there;
        x-there = part-long a.matrices.now (a.left.0 * a.r) a.r l;
        rows-there = p.1.there;
        operator = p.2;
      },
    )
