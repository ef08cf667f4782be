-- `none` meets its contract: the word, and the counts.
use Rattle.writing.proofs.Writing.{wrote-both}
use Rattle.line.specs.Line.{none_word, count_words}
use Rattle.line.proofs.none.Goals as goal

pub returns : goal.returns
returns c =
    let a = c.args in wrote-both none_word (count_words a.tried a.kept a.dropped)
    c.put-a.ensures c.put_counts.ensures
