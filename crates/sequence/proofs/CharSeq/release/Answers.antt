-- `CharSeq::release` meets its contract: the operator on the word with the length's mask.
use Rattle.sequence.specs.Operators.{release}
use Rattle.sequence.proofs.Masked.{binary-on}
use Rattle.sequence.proofs.CharSeq.release.Goals as goal

pub returns : goal.returns
returns c = binary-on release c.args.self c.args.right c.mask.ensures c.release.ensures
