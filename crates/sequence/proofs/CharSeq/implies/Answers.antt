-- `CharSeq::implies` meets its contract: the operator on the word with the length's mask.
use Rattle.sequence.specs.Operators.{implies}
use Rattle.sequence.proofs.Masked.{binary-on}
use Rattle.sequence.proofs.CharSeq.implies.Goals as goal

pub returns : goal.returns
returns c = binary-on implies c.args.self c.args.right c.mask.ensures c.implies.ensures
