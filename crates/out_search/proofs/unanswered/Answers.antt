-- `unanswered` gives 1, 2 or 3: what the core's tests decide with no session lent.
use Rattle.out_search.proofs.Searching.{unanswered}
use Rattle.out_search.proofs.unanswered.Goals as goal

pub returns-in-Ok : goal.returns-in-Ok
returns-in-Ok c = unanswered _ _ _ _ _ _ c.in-Ok.ensures

pub returns-in-Err : goal.returns-in-Err
returns-in-Err c = rw c.from.ensures (unanswered _ _ _ _ _ _ c.in-Err.ensures)
