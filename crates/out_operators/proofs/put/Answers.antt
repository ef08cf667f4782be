-- `put` looks at `out` only where there is a sequence to write.
use mathlib.Core.Logic.{inl, inr}
use mathlib.Core.Path.{refl}
use native.Mathlib.Omega.{arith}
use Rattle.out_operators.proofs.put.Goals as goal

pub returns-then-out-lt-OUT_WORDS : goal.returns-then-out-lt-OUT_WORDS
returns-then-out-lt-OUT_WORDS c = rw c.in-Ok.is (inl (omega arith, refl, refl))

pub returns-else-out-lt-OUT_WORDS : goal.returns-else-out-lt-OUT_WORDS
returns-else-out-lt-OUT_WORDS c = rw c.in-Ok.is (inr (omega arith, refl, refl))

pub returns-in-Err : goal.returns-in-Err
returns-in-Err c = rw c.in-Err.is (c.from.ensures, refl)
