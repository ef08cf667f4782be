-- `check` meets its contract: where `out` is too short by what comes before 3, and else by the check.
use Rattle.out_check.proofs.Checking.{check-short, check-long}
use Rattle.out_check.proofs.check.Goals as goal

pub returns-then-out-lt-OUT_WORDS : goal.returns-then-out-lt-OUT_WORDS
returns-then-out-lt-OUT_WORDS c = check-short _ _ _ _ _ _ _ _ c.if-out-lt-OUT_WORDS.true _ c.unanswered.ensures

pub returns : goal.returns
returns c =
    rw c.number.ensures (check-long _ _ _ _ c.if-out-lt-OUT_WORDS.false _
    c.check-answer.result c.check-answer.ensures
    c.put.ensures)
