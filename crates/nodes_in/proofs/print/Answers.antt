-- `print` meets its contract: what the core prints for the fields of the nodes that are looked at is what it prints for the list.
use mathlib.Core.Path.{sym}
use lib.Seq.{length-take-le}
use borrow.Author.Rules.{rules}
use Rattle.nodes_in.proofs.Seen.{prints-seen}
use Rattle.nodes_in.proofs.print.Goals as goal

pub slice_bounds-print-end : goal.slice_bounds-print-end
slice_bounds-print-end c = sym (length-take-le _ _ (search rules))

pub slice_bounds-print-end-2 : goal.slice_bounds-print-end-2
slice_bounds-print-end-2 c = sym (length-take-le _ _ (search rules))

pub slice_bounds-print-end-3 : goal.slice_bounds-print-end-3
slice_bounds-print-end-3 c = sym (length-take-le _ _ (search rules))

pub slice_bounds-print-end-4 : goal.slice_bounds-print-end-4
slice_bounds-print-end-4 c = sym (length-take-le _ _ (search rules))

pub returns : goal.returns
returns c =
    prints-seen _ _ _
    c.count_of-count.ensures
    c.unpack.ensures _ _ _ _ _
    c.print.ensures
