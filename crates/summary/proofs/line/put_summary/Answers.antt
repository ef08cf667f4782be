-- `put_summary` meets its contract: one after the other.
use mathlib.Core.List.{◌++◌}
use Rattle.writing.proofs.Writing.{wrote-both}
use Rattle.writing.specs.Writing.{decimal, newline}
use Rattle.summary.specs.Line.{blank, first_text}
use Rattle.summary.proofs.line.put_summary.Goals as goal

pub returns : goal.returns
returns c =
    let s = c.args.s in
    wrote-both (blank ++ first_text s.holds) ((blank ++ first_text s.fails) ++ (blank ++ (decimal s.count ++ newline)))
    c.put_blank_first-a.ensures (wrote-both (blank ++ first_text s.fails) (blank ++ (decimal s.count ++ newline))
    c.put_blank_first-b.ensures (wrote-both blank (decimal s.count ++ newline) c.put-c.ensures (wrote-both (decimal s.count) newline
    c.put_decimal-d.ensures c.put.ensures)))
