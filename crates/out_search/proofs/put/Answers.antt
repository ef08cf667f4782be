-- `put` meets its contract: what it writes is by the answer.
use Rattle.out_search.proofs.put.Goals as goal

pub returns-in-Found : goal.returns-in-Found
returns-in-Found c = rw c.in-Found.is c.put_found.ensures

pub returns-in-None : goal.returns-in-None
returns-in-None c = rw c.in-None.is c.put_none.ensures

pub returns-in-Full : goal.returns-in-Full
returns-in-Full c = rw c.in-Full.is c.put_full.ensures
