-- `CharSeq::weak_next` meets its contract: the operator on the word with the length's mask.
use Rattle.sequence.specs.Operators.{weak_next}
use Rattle.sequence.proofs.Masked.{unary-on}
use Rattle.sequence.proofs.CharSeq.weak_next.Goals as goal

pub returns : goal.returns
returns c = unary-on weak_next c.args.self c.mask.ensures c.weak_next.ensures
