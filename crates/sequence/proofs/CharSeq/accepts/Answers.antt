-- `CharSeq::accepts` meets its contract: the low bit is place 0.
use borrow.Author.Tests.{eqb-true, eq-eqb}
use Rattle.words.proofs.At.{at_first}
use Rattle.sequence.proofs.CharSeq.accepts.Goals as goal

pub returns : goal.returns
returns c = let e = at_first c.args.self.values in (λ t. e.0 (eqb-true _ _ t), λ a. eq-eqb _ _ (e.1 a))
