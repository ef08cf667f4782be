-- `say_list` says a number more, or a front of it where a write fails.
use Rattle.std.proofs.Common.{rules}
use Rattle.std.proofs.lemmas.Result.{err_from_is_err_and}
use Rattle.stored.proofs.Listing.{said-more, failed-bar, failed-next}
use Rattle.stored.proofs.say_list.Goals as goal

pub loop-x-preserved : goal.loop-x-preserved
loop-x-preserved g c =
    said-more g.T.Integer.text _ _ _ _ c.loop-x.x-index c.x-item.result (search rules) (search rules) c.loop-x.invariant c.in_ok-say_next.ensures.said

pub returns-in_err-say_bar-clause-err : goal.returns-in_err-say_bar-clause-err
returns-in_err-say_bar-clause-err g c =
    let failed = err_from_is_err_and c.from_residual.result c.from_residual.ensures.1 in
    rw failed.1 (failed-bar g.T.Integer.text _ _ c.args.list.now c.in_err-say_bar.ensures.err)

pub returns-in_err-say_next-clause-err : goal.returns-in_err-say_next-clause-err
returns-in_err-say_next-clause-err g c =
    let r = c.from_residual-in_err-say_next in
    let failed = err_from_is_err_and r.result r.ensures.1 in
    let front = c.in_err-say_next.ensures.err in
    rw failed.1 (failed-next g.T.Integer.text _ _ _ _ c.loop-x.x-index c.x-item.result (search rules) (search rules) c.loop-x.invariant front)
