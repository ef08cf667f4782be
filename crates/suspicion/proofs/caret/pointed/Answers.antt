-- `pointed` meets its contract: what was typed, the line with the caret, and the refusal, one after the other.
use mathlib.Core.List.{◌++◌}
use lib.ListN.{replicate}
use Rattle.writing.proofs.Writing.{wrote-both}
use Rattle.line.specs.Line.{refused_at_line}
use Rattle.writing.specs.Writing.{newline}
use Rattle.suspicion.specs.Caret.{caret}
use Rattle.suspicion.proofs.Typed.{take-replicate}
use Rattle.suspicion.proofs.caret.pointed.Goals as goal

pub returns : goal.returns
returns c =
    let a = c.args in wrote-both (((a.typed.now ++ newline) ++ replicate a.at 32) ++ caret) (refused_at_line a.number
    a.at) (wrote-both ((a.typed.now ++ newline) ++ replicate a.at 32) caret (wrote-both (a.typed.now ++ newline) (replicate a.at 32) (wrote-both
    a.typed.now newline c.put-a.ensures c.put-b.ensures) (rw (take-replicate a.at 4096 32 c.requires) at
    c.put-c.ensures))
    c.put-d.ensures) c.refused_at.ensures
