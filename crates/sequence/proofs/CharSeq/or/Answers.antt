-- `CharSeq::or` meets its contract: no place above the word is looked at, so the operator needs no mask.
use mathlib.Core.Path.{refl}
use Rattle.sequence.proofs.CharSeq.or.Goals as goal

pub returns : goal.returns
returns c = (refl, c.or.ensures)
