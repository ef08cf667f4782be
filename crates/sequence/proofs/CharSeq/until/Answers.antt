-- `CharSeq::until` meets its contract: the operator on the word with the length's mask.
use Rattle.sequence.specs.Operators.{until}
use Rattle.sequence.proofs.Masked.{binary-on}
use Rattle.sequence.proofs.CharSeq.until.Goals as goal

pub returns : goal.returns
returns c = binary-on until c.args.self c.args.right c.mask.ensures c.until.ensures
