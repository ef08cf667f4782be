-- `search` meets its contract: what the search in slices comes to with budget enough.
use native.Mathlib.Omega.{arith}
use Rattle.std.specs.Prelude.{Ok, Err}
use Rattle.std.proofs.lemmas.Result.{err_from_is_err_and}
use Rattle.search.proofs.Whole.{search-answers, size_fits}
use Rattle.search.proofs.search.Goals as goal

pub returns-in_err-state : goal.returns-in_err-state
returns-in_err-state c =
    let p = err_from_is_err_and c.from_residual.result c.from_residual.ensures.1 in
    rw (p.1, p.2) (search-answers _ _ (omega arith) (Err c.in_err-state.field-0.0) (rw c.fresh.ensures at c.in_err-state.ensures))

pub end_of-requires : goal.end_of-requires
end_of-requires c = size_fits _ _ c.in_ok-state.state (rw c.fresh.ensures at c.in_ok-state.ensures)

pub returns : goal.returns
returns c = rw c.end_of.ensures (search-answers _ _ (omega arith) (Ok c.in_ok-state.state) (rw c.fresh.ensures at c.in_ok-state.ensures))
