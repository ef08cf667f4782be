-- `unanswered` gives 8, 9 or 3: what the core decides with no room lent.
use Rattle.out_print.proofs.Printing.{print-fits, unanswered}
use Rattle.out_print.proofs.unanswered.Goals as goal

pub number-requires : goal.number-requires
number-requires c = print-fits _ _ _ _ _ _ c.print-answer.ensures

pub returns : goal.returns
returns c = rw c.number.ensures (unanswered _ _ _ _ _ c.print-answer.ensures)
