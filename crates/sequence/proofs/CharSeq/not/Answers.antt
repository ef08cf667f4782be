-- `CharSeq::not` meets its contract: the operator on the word with the length's mask.
use Rattle.sequence.specs.Operators.{not}
use Rattle.sequence.proofs.Masked.{unary-on}
use Rattle.sequence.proofs.CharSeq.not.Goals as goal

pub returns : goal.returns
returns c = unary-on not c.args.self c.mask.ensures c.not.ensures
