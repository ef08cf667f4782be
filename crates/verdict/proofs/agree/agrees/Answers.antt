-- `agrees` meets its contract: a good session has to accept, and a bad one must not.
use borrow.Author.Tests.{eqb-true, eq-eqb}
use lib.Dec.{eqb}
use Rattle.verdict.proofs.Checking.{same-tests}
use Rattle.verdict.proofs.agree.agrees.Goals as goal

pub returns : goal.returns
returns c = same-tests (eqb c.args.mark 1) c.accepts.result (λ t. eqb-true _ _ t, λ e. eq-eqb _ _ e) c.accepts.ensures
