-- `compare` meets its contract: each refusal is the first row that is given, and else the comparison at the place decides.
use mathlib.Core.Logic.{inl, inr}
use native.Mathlib.Omega.{arith}
use Rattle.rules.specs.Limits.{most_sessions}
use Rattle.comparison.proofs.Differences.{refused-one, refused-three, compared}
use Rattle.leaves.proofs.Products.{at_most}
use Rattle.comparison.proofs.compare.Goals as goal

pub returns-then-r-lt1 : goal.returns-then-r-lt1
returns-then-r-lt1 c = refused-one _ _ _ _ (inl (omega arith))

pub returns-then-r-gt-SESSIONS : goal.returns-then-r-gt-SESSIONS
returns-then-r-gt-SESSIONS c = refused-one _ _ _ _ (inr (omega arith))

pub returns-then-words-r : goal.returns-then-words-r
returns-then-words-r c = refused-three _ _ _ _ (omega arith) (omega arith) (inr (omega arith))

pub overflow_mul-from : goal.overflow_mul-from
overflow_mul-from c = let a = c.args in omega (arith, at_most a.place.0 65535 a.r most_sessions (omega arith) (omega arith))

pub overflow_add-from : goal.overflow_add-from
overflow_add-from c = let a = c.args in omega (arith, at_most a.place.0 65535 a.r most_sessions (omega arith) (omega arith))

pub returns-then-matrices-from : goal.returns-then-matrices-from
returns-then-matrices-from c = refused-three _ _ _ _ (omega arith) (omega arith) (inl (omega arith))

pub returns : goal.returns
returns c =
    let a = c.args in
    compared a.r a.place.0 a.matrices.now a.words.now (omega arith) (omega arith) (omega arith) (omega arith) c.compare_at.result c.compare_at.ensures
