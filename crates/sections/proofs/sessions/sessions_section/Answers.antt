-- `sessions_section` meets its contract: a section after its count.
use Rattle.std.proofs.lemmas.Result.{err_from_is_err_and}
use Rattle.reading.proofs.Steps.{section-read, section-broken}
use Rattle.sections.proofs.sessions.sessions_section.Goals as goal

pub returns-in_err-count : goal.returns-in_err-count
returns-in_err-count c =
    let p = err_from_is_err_and c.from_residual.result c.from_residual.ensures.1 in
    rw (p.1, p.2) (section-broken _ _ 1 32 _ c.in_err-count.ensures)

pub returns : goal.returns
returns c = section-read _ _ 1 32 _ _ c.in_ok-count.ensures c.sessions_from.ensures
