-- `report` meets its contract: where `out` is too short by what comes before the last 3, and else by the report.
use Rattle.out_report.proofs.Reporting.{report-short, report-long}
use Rattle.out_report.proofs.report.Goals as goal

pub returns-then-out-lt-OUT_WORDS : goal.returns-then-out-lt-OUT_WORDS
returns-then-out-lt-OUT_WORDS c = report-short _ _ _ _ _ c.if-out-lt-OUT_WORDS.true _ c.unanswered.ensures

pub returns : goal.returns
returns c =
    rw c.number.ensures (report-long _ _ _ _ _ c.if-out-lt-OUT_WORDS.false
    c.report-answer.result _ _
    c.report-answer.ensures c.put.ensures)
