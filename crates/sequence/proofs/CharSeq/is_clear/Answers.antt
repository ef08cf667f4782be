-- `CharSeq::is_clear` meets its contract: the leading zeros decide, where n is at most 64.
use native.Mathlib.Omega.{arith}
use lib.Count.{leading_le}
use borrow.Author.Tests.{leb-true, le-leb}
use Rattle.words.specs.Word.{width}
use Rattle.sequence.proofs.Leading.{leading-wf}
use Rattle.sequence.proofs.CharSeq.is_clear.Goals as goal

pub overflow_cast-result : goal.overflow_cast-result
overflow_cast-result c = omega (arith, leading_le width c.args.values)

pub returns-then-n-le-MAX_LENGTH : goal.returns-then-n-le-MAX_LENGTH
returns-then-n-le-MAX_LENGTH c =
    let s = c.args in
    let e = leading-wf {n = s.n} {x = s.values} (omega arith) (omega arith) in
    (λ t. e.0 (leb-true _ _ t), λ w. le-leb _ _ (e.1 w))

pub returns-else-n-le-MAX_LENGTH : goal.returns-else-n-le-MAX_LENGTH
returns-else-n-le-MAX_LENGTH c = (λ t. absurd (omega (arith, leb-true)), λ w. le-leb _ _ w.short)
