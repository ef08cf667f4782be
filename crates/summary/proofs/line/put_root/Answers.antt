-- `put_root` meets its contract: one after the other.
use mathlib.Core.List.{◌++◌}
use Rattle.writing.proofs.Writing.{wrote-both}
use Rattle.writing.specs.Writing.{decimal}
use Rattle.summary.specs.Line.{root_word, summary_text}
use Rattle.summary.proofs.line.put_root.Goals as goal

pub returns : goal.returns
returns c =
    let a = c.args in
    wrote-both (decimal a.session.0) (root_word ++ summary_text a.s) c.put_decimal-a.ensures
    (wrote-both root_word (summary_text a.s) c.put-b.ensures c.put_summary.ensures)
