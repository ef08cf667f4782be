-- `disagrees` meets its contract: the number with its word, and the line's end.
use mathlib.Core.List.{◌++◌}
use Rattle.writing.proofs.Writing.{wrote-both}
use Rattle.writing.specs.Writing.{decimal}
use Rattle.line.specs.Line.{session_word, disagrees_word}
use Rattle.line.proofs.disagrees.Goals as goal

pub returns : goal.returns
returns c =
    let a = c.args in wrote-both (session_word ++ decimal
    a.session) disagrees_word c.put_number-a.ensures c.put.ensures
