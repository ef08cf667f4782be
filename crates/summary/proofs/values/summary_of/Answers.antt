-- `summary_of` meets its contract: each value is that of the masked word.
use native.Mathlib.Omega.{arith}
use lib.Count.{ones-le}
use lib.Bits.{bit_and}
use Rattle.words.specs.Word.{width}
use Rattle.summary.proofs.Firsts.{least-holds, least-fails, counts, masked_low}
use Rattle.summary.proofs.values.summary_of.Goals as goal

pub overflow_cast-count : goal.overflow_cast-count
overflow_cast-count c =
    let a = c.args in
    omega (
      arith,
      ones-le width (bit_and a.seq.values c.mask-mask.result)
          (masked_low a.seq.length a.seq.values c.mask-mask.result (omega arith) c.mask-mask.ensures),
    )

pub returns : goal.returns
returns c =
    let a = c.args in
    let m = c.mask-mask in
    record {
      holds = least-holds a.seq.length a.seq.values m.result (omega arith) m.ensures c.lowest-holds.result c.lowest-holds.ensures;
      fails = least-fails a.seq.length a.seq.values m.result (omega arith) m.ensures c.lowest-fails.result c.lowest-fails.ensures;
      count = counts a.seq.length a.seq.values m.result (omega arith) m.ensures;
    }
