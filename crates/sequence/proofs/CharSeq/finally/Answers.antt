-- `CharSeq::finally` meets its contract: the operator on the word with the length's mask.
use Rattle.sequence.specs.Operators.{finally}
use Rattle.sequence.proofs.Masked.{unary-on}
use Rattle.sequence.proofs.CharSeq.finally.Goals as goal

pub returns : goal.returns
returns c = unary-on finally c.args.self c.mask.ensures c.finally.ensures
