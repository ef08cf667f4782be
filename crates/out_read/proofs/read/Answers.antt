-- `read` meets its contract: where `out` is too short by what comes before 3, and else by the reader.
use Rattle.out_read.proofs.Reading.{read_fits, read_short, read-long}
use Rattle.out_read.proofs.read.Goals as goal

pub returns-then-out-lt-OUT_WORDS : goal.returns-then-out-lt-OUT_WORDS
returns-then-out-lt-OUT_WORDS c = read_short _ _ _ c.if-out-lt-OUT_WORDS.true _ c.unanswered.ensures

pub number-requires : goal.number-requires
number-requires c = read_fits _ _ _ c.read-answer.ensures

pub returns : goal.returns
returns c =
    rw (c.number.ensures, c.put.ensures) (read-long _ _ _
    c.if-out-lt-OUT_WORDS.false
    _ c.read-answer.ensures)
