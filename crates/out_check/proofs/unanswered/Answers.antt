-- `unanswered` gives 1 or 3: what the tests of session data decide with no session lent.
use Rattle.out_check.proofs.Checking.{unanswered}
use Rattle.out_check.proofs.unanswered.Goals as goal

pub returns-in-Ok : goal.returns-in-Ok
returns-in-Ok c = unanswered c.args.r c.args.m 0 (rw c.in-Ok.is at c.test.ensures)

pub returns-in-Err : goal.returns-in-Err
returns-in-Err c = rw c.from.ensures (unanswered c.args.r c.args.m _ (rw c.in-Err.is at c.test.ensures))
