-- `CharSeq::globally` meets its contract: the operator on the word with the length's mask.
use Rattle.sequence.specs.Operators.{globally}
use Rattle.sequence.proofs.Masked.{unary-on}
use Rattle.sequence.proofs.CharSeq.globally.Goals as goal

pub returns : goal.returns
returns c = unary-on globally c.args.self c.mask.ensures c.globally.ensures
