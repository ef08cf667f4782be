-- `judge` meets its contract: the names section, and the end.
use Rattle.std.proofs.lemmas.Result.{err_from_is_err_and}
use Rattle.names.proofs.Sections.{section-bad, section-extra, section-whole}
use Rattle.names.proofs.judge.Goals as goal

pub returns-in_err-names : goal.returns-in_err-names
returns-in_err-names c =
    let p = err_from_is_err_and c.from_residual.result c.from_residual.ensures.1 in
    rw (p.1, p.2) (section-bad _ c.in_err-names.ensures)

pub returns-then-names-file : goal.returns-then-names-file
returns-then-names-file c = section-extra _ c.in_ok-names.ensures c.if-names-file.true

pub returns : goal.returns
returns c = section-whole _ c.in_ok-names.ensures c.if-names-file.false
