-- `found` meets its contract: the names and the list can be printed, so the counts, the text and the line's end are written.
use mathlib.Core.Path.{refl, sym, ap, ◌∙◌}
use lib.ListN.{length}
use Rattle.formula.specs.Kinds.{node_of, nodes}
use Rattle.lines.proofs.Shown.{text-front, found-written, no_error}
use Rattle.lines.proofs.found.Goals as goal

pub slice_bounds-shown-end : goal.slice_bounds-shown-end
slice_bounds-shown-end c =
    let a = c.args in (text-front a.names.now (nodes a.codes.now a.lefts.now a.rights.now a.sizes.now) (node_of a.root)
    c.requires.0 _ refl
    c.print-printed.result _
    c.print-printed.ensures c.in-Ok.is).there

pub slice_bounds-put-end : goal.slice_bounds-put-end
slice_bounds-put-end c =
    let a = c.args in let f = text-front a.names.now (nodes a.codes.now a.lefts.now a.rights.now a.sizes.now) (node_of a.root)
    c.requires.0 _ refl
    c.print-printed.result _
    c.print-printed.ensures
    c.in-Ok.is in f.long ∙ sym (ap length f.is)

pub returns-in-Ok : goal.returns-in-Ok
returns-in-Ok c =
    let a = c.args in
    λ names next e. found-written a.names.now (nodes a.codes.now a.lefts.now a.rights.now a.sizes.now) (node_of a.root)
    c.requires.0 _ refl c.print-printed.result _ c.print-printed.ensures (text-front a.names.now (nodes a.codes.now a.lefts.now
    a.rights.now a.sizes.now) (node_of a.root) c.requires.0 _ refl c.print-printed.result _ c.print-printed.ensures c.in-Ok.is)
    names next e a.root.size a.tried (length a.codes.now) a.dropped c.requires.1 c.found-a.ensures c.put-b.ensures
    c.put.ensures

pub returns-in-Err-Broken : goal.returns-in-Err-Broken
returns-in-Err-Broken c =
    let a = c.args in absurd
    (no_error a.names.now (nodes a.codes.now a.lefts.now a.rights.now a.sizes.now) (node_of a.root)
    c.requires.0 _ refl
    c.print-printed.result _ c.print-printed.ensures
    c.in-Err-Broken.is)

pub returns-in-Err-Refused : goal.returns-in-Err-Refused
returns-in-Err-Refused c =
    let a = c.args in absurd
    (no_error a.names.now (nodes a.codes.now a.lefts.now a.rights.now a.sizes.now) (node_of a.root)
    c.requires.0 _ refl
    c.print-printed.result _ c.print-printed.ensures
    c.in-Err-Refused.is)
