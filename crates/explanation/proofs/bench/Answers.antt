-- `bench` meets its contract: the bench's lines are within their room, and are copied.
use mathlib.Core.Path.{sym}
use lib.Seq.{length-take-le}
use Rattle.lines.proofs.Unique.{lines-in}
use Rattle.explanation.proofs.Outcomes.{bench-stands}
use Rattle.explanation.proofs.bench.Goals as goal

pub slice_bounds-lines-end : goal.slice_bounds-lines-end
slice_bounds-lines-end c = lines-in c.of_file-length.ensures

pub slice_bounds-put-end : goal.slice_bounds-put-end
slice_bounds-put-end c = sym (length-take-le _ _ (lines-in c.of_file-length.ensures))

pub returns : goal.returns
returns c = bench-stands c.of_file-length.ensures c.put.ensures
