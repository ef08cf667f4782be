-- `CharSeq::equiv` meets its contract: the operator on the word with the length's mask.
use Rattle.sequence.specs.Operators.{equiv}
use Rattle.sequence.proofs.Masked.{binary-on}
use Rattle.sequence.proofs.CharSeq.equiv.Goals as goal

pub returns : goal.returns
returns c = binary-on equiv c.args.self c.args.right c.mask.ensures c.equiv.ensures
