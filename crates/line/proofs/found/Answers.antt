-- `found` meets its contract: the size with its word, and the counts.
use Rattle.writing.proofs.Writing.{wrote-both}
use mathlib.Core.List.{◌++◌}
use Rattle.writing.specs.Writing.{decimal}
use Rattle.line.specs.Line.{found_size_word, count_words}
use Rattle.line.proofs.found.Goals as goal

pub returns : goal.returns
returns c =
    let a = c.args in wrote-both (found_size_word ++ decimal a.size) (count_words
    a.tried a.kept a.dropped) c.put_number-a.ensures c.put_counts.ensures
