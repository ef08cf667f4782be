-- `resume` meets its contract: where `out` or the state is too short by what comes before 3, and else by the search in slices.
use mathlib.Core.Logic.{⊎_elim}
use Rattle.out_resume.proofs.Resuming.{out-short, state-short, resume-refused, resume-long}
use Rattle.out_resume.proofs.resume.Goals as goal

pub returns-then-out-lt-LONG_WORDS : goal.returns-then-out-lt-LONG_WORDS
returns-then-out-lt-LONG_WORDS c =
    ⊎_elim (λ t. out-short _ _ _ _ _ _ _ _ _ _ _ _ _ _ t _ c.unanswered.ensures)
    (λ t. state-short _ _ _ _ _ _ _ _ _ _ _ _ _ _ t.0 t.1 _ c.unanswered.ensures) c.then-out-lt-LONG_WORDS.either

pub returns-in-Ok : goal.returns-in-Ok
returns-in-Ok c =
    resume-long _ _ _ _ _ c.if-out-lt-LONG_WORDS.false c.if-state-lt-STATE_WORDS.false _ c.read-from.ensures _ _ c.in-Ok.ensures _ _ _ c.put.ensures c.tell.ensures

pub returns-in-Err : goal.returns-in-Err
returns-in-Err c =
    rw c.from.ensures
    (resume-refused _ _ _ _ _ c.if-out-lt-LONG_WORDS.false c.if-state-lt-STATE_WORDS.false _ c.read-from.ensures _ _ c.in-Err.ensures)
