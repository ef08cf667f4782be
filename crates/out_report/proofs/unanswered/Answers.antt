-- `unanswered` gives what the report's rows decide with no text lent.
use Rattle.out_report.proofs.Reporting.{unreported}
use Rattle.out_report.proofs.unanswered.Goals as goal

pub returns : goal.returns
returns c = rw c.number.ensures (unreported _ _ _ c.report-answer.result _ c.report-answer.ensures)
