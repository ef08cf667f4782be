-- `print` meets its contract: where `out` is too short by what comes before 3, and else by print.
use Rattle.out_print.proofs.Printing.{print-fits, print-short, print-long}
use Rattle.out_print.proofs.print.Goals as goal

pub returns-then-out-lt-OUT_WORDS : goal.returns-then-out-lt-OUT_WORDS
returns-then-out-lt-OUT_WORDS c = print-short _ _ _ _ _ c.if-out-lt-OUT_WORDS.true _ c.unanswered.ensures

pub number-requires : goal.number-requires
number-requires c = print-fits _ _ _ _ _ _ c.print-answer.ensures

pub returns : goal.returns
returns c =
    rw c.number.ensures (print-long _ _ _ _ _ c.if-out-lt-OUT_WORDS.false
    c.print-answer.result _ _
    c.print-answer.ensures c.put.ensures)
