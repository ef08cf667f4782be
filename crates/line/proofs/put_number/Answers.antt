-- `put_number` meets its contract: the word, and then the digits.
use Rattle.writing.proofs.Writing.{wrote-both}
use Rattle.writing.specs.Writing.{decimal}
use Rattle.line.proofs.put_number.Goals as goal

pub returns : goal.returns
returns c =
    let a = c.args in wrote-both a.word.now (decimal a.x)
    c.put-a.ensures c.put_decimal.ensures
