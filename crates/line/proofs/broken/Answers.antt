-- `broken` meets its contract: the number with its word, and the line's end.
use Rattle.writing.proofs.Writing.{wrote-both}
use mathlib.Core.List.{◌++◌}
use Rattle.writing.specs.Writing.{decimal, newline}
use Rattle.line.specs.Line.{broken_at_word}
use Rattle.line.proofs.broken.Goals as goal

pub returns : goal.returns
returns c =
    let a = c.args in wrote-both (broken_at_word ++ decimal a.at) newline
    c.put_number-a.ensures c.put.ensures
