-- `put_blank_first` meets its contract: one after the other.
use Rattle.writing.proofs.Writing.{wrote-both}
use Rattle.summary.specs.Line.{blank, first_text}
use Rattle.summary.proofs.line.put_blank_first.Goals as goal

pub returns : goal.returns
returns c =
    let a = c.args in
    wrote-both blank (first_text a.first) c.put-a.ensures c.put_first.ensures
