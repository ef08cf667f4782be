-- `search` meets its contract: where `out` is too short by what comes before 3, and else by the search.
use native.Mathlib.Omega.{arith}
use Rattle.out_search.proofs.Searching.{search-short, search-refused, search-long}
use Rattle.out_search.proofs.search.Goals as goal

pub returns-then-out-lt-LONG_WORDS : goal.returns-then-out-lt-LONG_WORDS
returns-then-out-lt-LONG_WORDS c = search-short _ _ _ _ _ _ _ _ _ _ _ _ (omega arith) _ c.unanswered.ensures

pub returns-in-Ok : goal.returns-in-Ok
returns-in-Ok c = search-long _ _ _ c.if-out-lt-LONG_WORDS.false _ _ _ c.in-Ok.ensures c.put.ensures

pub returns-in-Err : goal.returns-in-Err
returns-in-Err c = rw c.from.ensures (search-refused _ _ _ c.if-out-lt-LONG_WORDS.false _ _ c.in-Err.ensures)
