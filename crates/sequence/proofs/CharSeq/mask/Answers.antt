-- `CharSeq::mask` meets its contract: below 64 the shift is exact, and from 64 on every place of the word is below the length.
use native.Mathlib.Omega.{arith}
use lib.Pow.{pow_pos}
use Rattle.words.specs.Word.{width}
use Rattle.sequence.proofs.Masked.{one_shl, ones-mask}
use Rattle.sequence.proofs.CharSeq.mask.Goals as goal

pub overflow_sub-result : goal.overflow_sub-result
overflow_sub-result c = let n = c.args.length in omega (arith, one_shl n (omega arith), pow_pos n)

pub returns-then-length-lt-MAX_LENGTH : goal.returns-then-length-lt-MAX_LENGTH
returns-then-length-lt-MAX_LENGTH c =
    let n = c.args.length in
    rw (one_shl n (omega arith)) (ones-mask n n (omega arith) (omega arith) (λ i w h. h))

pub returns-else-length-lt-MAX_LENGTH : goal.returns-else-length-lt-MAX_LENGTH
returns-else-length-lt-MAX_LENGTH c = let n = c.args.length in ones-mask width n (omega arith) (omega arith) (λ i w h. w)
