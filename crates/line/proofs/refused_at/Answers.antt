-- `refused_at` meets its contract: two numbers with their words, and the line's end.
use mathlib.Core.List.{◌++◌}
use Rattle.writing.proofs.Writing.{wrote-both}
use Rattle.writing.specs.Writing.{decimal, newline}
use Rattle.line.specs.Line.{refused_word}
use Rattle.line.specs.Line.{at_word}
use Rattle.line.proofs.refused_at.Goals as goal

pub returns : goal.returns
returns c =
    let a = c.args in wrote-both
    ((refused_word ++ decimal a.number) ++ (at_word ++ decimal a.at)) newline (wrote-both (refused_word ++ decimal a.number) (at_word ++ decimal a.at)
    c.put_number-a.ensures
    c.put_number-b.ensures) c.put.ensures
