-- `judge` meets its contract: the sections one after another, and what offends first decides.
use Rattle.std.proofs.lemmas.Result.{err_from_is_err_and}
use Rattle.file.proofs.Sections.{judge-names, judge-sessions, judge-unary, judge-binary, judge-tail, judge-whole}
use Rattle.file.proofs.judge.Goals as goal

pub returns-in_err-names : goal.returns-in_err-names
returns-in_err-names c =
    let p = err_from_is_err_and c.from_residual.result c.from_residual.ensures.1 in
    rw (p.1, p.2) (judge-names _ c.in_err-names.ensures)

pub returns-in_err-sessions : goal.returns-in_err-sessions
returns-in_err-sessions c =
    let p = err_from_is_err_and c.from_residual-in_err-sessions.result c.from_residual-in_err-sessions.ensures.1 in
    rw (p.1, p.2) (judge-sessions _ c.in_ok-names.ensures c.in_err-sessions.ensures)

pub returns-in_err-unary : goal.returns-in_err-unary
returns-in_err-unary c =
    let p = err_from_is_err_and c.from_residual-in_err-unary.result c.from_residual-in_err-unary.ensures.1 in
    rw (p.1, p.2) (judge-unary _ c.in_ok-names.ensures c.in_ok-sessions.ensures c.in_err-unary.ensures)

pub returns-in_err-binary : goal.returns-in_err-binary
returns-in_err-binary c =
    let p = err_from_is_err_and c.from_residual-in_err-binary.result c.from_residual-in_err-binary.ensures.1 in
    rw (p.1, p.2) (judge-binary _ c.in_ok-names.ensures c.in_ok-sessions.ensures c.in_ok-unary.ensures c.in_err-binary.ensures)

pub returns-in_err-settings : goal.returns-in_err-settings
returns-in_err-settings c =
    let p = err_from_is_err_and c.from_residual-in_err-settings.result c.from_residual-in_err-settings.ensures.1 in
    rw (p.1, p.2) (judge-tail _ c.in_ok-names.ensures c.in_ok-sessions.ensures c.in_ok-unary.ensures c.in_ok-binary.ensures c.in_err-settings.ensures)

pub returns : goal.returns
returns c = judge-whole _ c.in_ok-names.ensures c.in_ok-sessions.ensures c.in_ok-unary.ensures c.in_ok-binary.ensures c.in_ok-settings.ensures
