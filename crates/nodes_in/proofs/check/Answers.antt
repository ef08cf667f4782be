-- `check` meets its contract: the core's answer for the fields of the nodes that are looked at is the answer for the list.
use mathlib.Core.Path.{sym}
use lib.Seq.{length-take-le}
use borrow.Author.Rules.{rules}
use Rattle.nodes_in.proofs.Seen.{checks-seen}
use Rattle.nodes_in.proofs.check.Goals as goal

pub slice_bounds-check-end : goal.slice_bounds-check-end
slice_bounds-check-end c = sym (length-take-le _ _ (search rules))

pub slice_bounds-check-end-2 : goal.slice_bounds-check-end-2
slice_bounds-check-end-2 c = sym (length-take-le _ _ (search rules))

pub slice_bounds-check-end-3 : goal.slice_bounds-check-end-3
slice_bounds-check-end-3 c = sym (length-take-le _ _ (search rules))

pub slice_bounds-check-end-4 : goal.slice_bounds-check-end-4
slice_bounds-check-end-4 c = sym (length-take-le _ _ (search rules))

pub returns : goal.returns
returns c =
    checks-seen _ _ _
    c.count_of-count.ensures
    c.unpack.ensures _ _ _ c.check.ensures
