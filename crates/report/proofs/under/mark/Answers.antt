-- `mark` meets its contract: past the end nothing is set.
use mathlib.Core.Path.{sym}
use lib.Seq.{set_out}
use Rattle.report.proofs.under.mark.Goals as goal

pub returns-then-marks-p : goal.returns-then-marks-p
returns-then-marks-p c = sym (set_out _ _ 1 c.if-marks-p.true)
