-- `put_place` meets its contract: one after the other.
use mathlib.Core.List.{◌++◌}
use Rattle.writing.proofs.Writing.{wrote-both}
use Rattle.writing.specs.Writing.{decimal}
use Rattle.summary.specs.Line.{blank, summary_text}
use Rattle.summary.proofs.line.put_place.Goals as goal

pub returns : goal.returns
returns c =
    let a = c.args in
    wrote-both (decimal a.session.0) (blank ++ (decimal a.place.0 ++ summary_text a.s))
    c.put_decimal-a.ensures
    (wrote-both blank (decimal a.place.0 ++ summary_text a.s) c.put-b.ensures
    (wrote-both (decimal a.place.0) (summary_text a.s) c.put_decimal-c.ensures c.put_summary.ensures))
