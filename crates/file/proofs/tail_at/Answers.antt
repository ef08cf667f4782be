-- `tail_at` meets its contract: the settings byte by byte, and the end.
use Rattle.std.proofs.lemmas.Result.{err_from_is_err_and}
use Rattle.file.proofs.Sections.{tail-no-count, tail-no-mark, tail-no-bound, tail-mark-in, tail-bound-in, tail-extra, tail-whole}
use Rattle.file.proofs.tail_at.Goals as goal

pub returns-in_err-count : goal.returns-in_err-count
returns-in_err-count c =
    let p = err_from_is_err_and c.from_residual.result c.from_residual.ensures.1 in
    rw (p.1, p.2) (tail-no-count _ _ c.in_err-count.ensures)

pub returns-in_err-constants : goal.returns-in_err-constants
returns-in_err-constants c =
    let p = err_from_is_err_and c.from_residual-in_err-constants.result c.from_residual-in_err-constants.ensures.1 in
    rw (p.1, p.2) (tail-no-mark _ _ c.in_ok-count.ensures c.in_err-constants.ensures)

pub returns-in_err-bound : goal.returns-in_err-bound
returns-in_err-bound c =
    let p = err_from_is_err_and c.from_residual-in_err-bound.result c.from_residual-in_err-bound.ensures.1 in
    rw (p.1, p.2) (tail-no-bound _ _ c.in_ok-count.ensures c.in_ok-constants.ensures c.in_err-bound.ensures)

pub returns-then-bound-file : goal.returns-then-bound-file
returns-then-bound-file c = tail-extra _ _ c.in_ok-count.ensures c.in_ok-constants.ensures c.in_ok-bound.ensures c.if-bound-file.true

pub bounds-file-count : goal.bounds-file-count
bounds-file-count c = tail-mark-in _ _ c.in_ok-count.ensures c.in_ok-constants.ensures c.in_ok-bound.ensures

pub bounds-file-constants : goal.bounds-file-constants
bounds-file-constants c = tail-bound-in _ _ c.in_ok-count.ensures c.in_ok-constants.ensures c.in_ok-bound.ensures

pub returns : goal.returns
returns c = tail-whole _ _ c.in_ok-count.ensures c.in_ok-constants.ensures c.in_ok-bound.ensures c.if-bound-file.false
