-- `session_at` meets its contract: mark, length and words.
use Rattle.std.proofs.lemmas.Result.{err_from_is_err_and}
use Rattle.reading.proofs.Lists.{within-high}
use Rattle.reading.proofs.Readers.{byte-sound}
use Rattle.reading.proofs.Steps.{byte-read}
use Rattle.sections.proofs.Session.{session-no-mark, session-no-length, session-words}
use Rattle.sections.proofs.sessions.session_at.Goals as goal

pub returns-in_err-mark : goal.returns-in_err-mark
returns-in_err-mark c =
    let p = err_from_is_err_and c.from_residual.result c.from_residual.ensures.1 in
    rw (p.1, p.2) (session-no-mark _ _ _ c.in_err-mark.ensures)

pub returns-in_err-length : goal.returns-in_err-length
returns-in_err-length c =
    let p = err_from_is_err_and c.from_residual-in_err-length.result c.from_residual-in_err-length.ensures.1 in
    rw (p.1, p.2) (session-no-length _ _ _ c.in_ok-mark.ensures c.in_err-length.ensures)

pub words_from-requires : goal.words_from-requires
words_from-requires c = within-high 0 64 _ (byte-sound _ _ _ (byte-read _ c.in_ok-length.ensures)).0

pub returns : goal.returns
returns c = session-words _ _ _ c.in_ok-mark.ensures c.in_ok-length.ensures c.words_from.ensures
