-- `parse` meets its contract: where `out` is too short by what comes before 3, and else by the reader of formulas.
use Rattle.out_parse.proofs.Parsing.{parse-fits, parse-short, parse-long}
use Rattle.out_parse.proofs.parse.Goals as goal

pub returns-then-out-lt-OUT_WORDS : goal.returns-then-out-lt-OUT_WORDS
returns-then-out-lt-OUT_WORDS c = let e = c.unanswered.ensures in rw e.3 (parse-short _ _ _ _ c.if-out-lt-OUT_WORDS.true e.0 e.1 e.2)

pub number-requires : goal.number-requires
number-requires c = parse-fits _ _ _ _ _ c.parse-answer.ensures

pub returns : goal.returns
returns c =
    rw c.number.ensures (parse-long _ _ _ _
    c.if-out-lt-OUT_WORDS.false
    c.parse-answer.result _ _
    c.parse-answer.ensures
    c.put.ensures)
