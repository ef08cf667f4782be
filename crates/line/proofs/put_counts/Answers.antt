-- `put_counts` meets its contract: three numbers with their words, and the line's end.
use Rattle.writing.proofs.Writing.{wrote-both}
use Rattle.writing.specs.Writing.{decimal, newline}
use Rattle.line.specs.Line.{tried_word, kept_word, dropped_word}
use mathlib.Core.List.{◌++◌}
use Rattle.line.proofs.put_counts.Goals as goal

pub returns : goal.returns
returns c =
    let a = c.args in
    let last = wrote-both (dropped_word ++ decimal a.dropped) newline c.put_number-c.ensures
    c.put.ensures in
    wrote-both (tried_word ++ decimal a.tried) ((kept_word ++ decimal a.kept) ++ ((dropped_word ++ decimal a.dropped) ++ newline))
    c.put_number-a.ensures
    (wrote-both (kept_word ++ decimal a.kept) ((dropped_word ++ decimal a.dropped) ++ newline)
    c.put_number-b.ensures last)
